-- Hex digits there and back.
-- Assumes nothing.
use mathlib.Core.Path.{◌≡◌, refl, sym, ap, ap₂, ◌∙◌}
use mathlib.Core.Bool.{Bool, true, false, ◌&&◌, ◌||◌, cond}
use mathlib.Core.List.{List, [], ◌∷◌, ◌++◌}
use Prim.Native.Nat.{ℕ, zero, suc, ◌+◌, ◌-◌, ◌*◌, ◌/◌, ◌%◌, ◌≤◌, ◌<◌}
use native.Mathlib.Omega.{arith}
use lib.Dec.{T, eqb, leb, ltb, eqb→eq}
use lib.ListN.{length, get_or}
use borrow.Author.Tests.{lt-ltb, le-ltb, ltb-true, ltb-false}
use Rattle.digits.specs.Paper.Ascii.{ascii}
use Rattle.digits.specs.Paper.Bytes.{Bytes}
use Rattle.digits.specs.Paper.Hex.{hex_digit, hex_byte, hex_word, hex_bytes}
use Rattle.digits.specs.Paper.Read.{Reads, is, none}
use Rattle.digits.specs.Work.Hex.{place_of}
use Rattle.digits.proofs.Laws.Table.{at}
use Rattle.digits.proofs.Laws.Bytes.{bytes-head, bytes-tail}

-- ---- one digit

-- the table's rule: a digit stands where it is looked for
found : ℕ → ℕ → Bool
found v c = eqb (place_of c) v

pub place-digit : (v : ℕ) → v < 16 → place_of (hex_digit v) ≡ v
unfolding hex_digit found place_of
place-digit v h = eqb→eq (place_of (hex_digit v)) v (at found (ascii "0123456789ABCDEF") tt v h)

pub place-lt : (c : ℕ) → place_of c < 16
unfolding place_of
place-lt c = go (ltb c 65)
  where
    go : (t : Bool) → cond t (c % 16) ((c % 16 + 9) % 16) < 16
    go true = omega arith
    go false = omega arith

pub digit-inj : (u v : ℕ) → u < 16 → v < 16 → hex_digit u ≡ hex_digit v → u ≡ v
digit-inj u v h k e = sym (place-digit u h) ∙ ap place_of e ∙ place-digit v k

-- a digit is one of `0` to `9` and `A` to `F`
upper : ℕ → ℕ → Bool
upper v c = (leb 48 c && leb c 57) || (leb 65 c && leb c 70)

pub digit-upper : (v : ℕ) → v < 16 → T ((leb 48 (hex_digit v) && leb (hex_digit v) 57) || (leb 65 (hex_digit v) && leb (hex_digit v) 70))
unfolding hex_digit upper
digit-upper v h = at upper (ascii "0123456789ABCDEF") tt v h

-- the digit of each value
valued : ℕ → ℕ → Bool
valued v c = eqb c (cond (ltb v 10) (48 + v) (55 + v))

pub digit-of : (v : ℕ) → v < 16 → hex_digit v ≡ cond (ltb v 10) (48 + v) (55 + v)
unfolding hex_digit valued
digit-of v h = eqb→eq _ _ (at valued (ascii "0123456789ABCDEF") tt v h)

pub digit-figure : (v : ℕ) → v < 10 → 48 + v ≡ hex_digit v
digit-figure v h = sym (digit-of v (omega arith) ∙ simp (lt-ltb v 10 h))

pub digit-letter : (v : ℕ) → 10 ≤ v → v < 16 → 55 + v ≡ hex_digit v
digit-letter v h k = sym (digit-of v k ∙ simp (le-ltb v 10 h))

-- what reading a character answers: in the one range and in the other, and in neither
module _ (c : ℕ) where
  pub figure-read : 48 ≤ c → c ≤ 57 → Reads 0 (λ v. v < 16) (λ v. hex_digit v ∷ []) 5 (c ∷ []) 0 (c - 48)
  figure-read h k =
      let e : 48 + (c - 48) ≡ c = omega arith in
      is {v = c - 48} (omega arith) (ap (λ (x : ℕ). x ∷ []) (sym (digit-figure (c - 48) (omega arith)) ∙ e))

  pub letter-read : 65 ≤ c → c ≤ 70 → Reads 0 (λ v. v < 16) (λ v. hex_digit v ∷ []) 5 (c ∷ []) 0 (c - 65 + 10)
  letter-read h k =
      let e : 55 + (c - 65 + 10) ≡ c = omega arith in
      is {v = c - 65 + 10} (omega arith) (ap (λ (x : ℕ). x ∷ []) (sym (digit-letter (c - 65 + 10) (omega arith) (omega arith)) ∙ e))

  no_digit : (48 ≤ c → c ≤ 57 → ⊥) → (65 ≤ c → c ≤ 70 → ⊥) → (v : ℕ) → v < 16 → hex_digit v ≡ c → ⊥
  no_digit f g v h e = go (ltb v 10) refl
    where
      go : (b : Bool) → ltb v 10 ≡ b → ⊥
      go true t = let l = ltb-true v 10 t in let d : 48 + v ≡ c = digit-figure v l ∙ e in f (omega arith) (omega arith)
      go false t = let l = ltb-false v 10 t in let d : 55 + v ≡ c = digit-letter v l h ∙ e in g (omega arith) (omega arith)

  pub unread : (48 ≤ c → c ≤ 57 → ⊥) → (65 ≤ c → c ≤ 70 → ⊥) → Reads 0 (λ v. v < 16) (λ v. hex_digit v ∷ []) 5 (c ∷ []) 5 0
  unread f g = none (λ v h e. no_digit f g v h cc)

-- ---- two, and four

pub byte-digits : (b x y : ℕ) → b < 256 → x ≡ hex_digit (b / 16 % 16) → y ≡ hex_digit (b % 16) → x ∷ y ∷ [] ≡ hex_byte b
unfolding hex_byte
byte-digits b x y h e f = let m : b / 16 % 16 ≡ b / 16 = omega arith in rw (e, f, m)

pub word_bytes : (n : ℕ) (high low : List ℕ) → high ≡ hex_byte (n / 256) → low ≡ hex_byte (n % 256)
    → get_or high 0 0 ∷ get_or high 1 0 ∷ get_or low 0 0 ∷ get_or low 1 0 ∷ [] ≡ hex_word n
unfolding hex_word hex_byte
word_bytes n high low e f = rw (e, f)

pub byte_of : (high low : ℕ) → high < 16 → low < 16 → hex_byte (high * 16 + low) ≡ hex_digit high ∷ hex_digit low ∷ []
unfolding hex_byte
byte_of high low h k =
    let a : (high * 16 + low) / 16 ≡ high = omega arith in
    let b : (high * 16 + low) % 16 ≡ low = omega arith in
    rw (a, b)

-- bytes that are two digits: each is a digit of a value
pub byte-parts : (b high low : ℕ) → b < 256 → hex_byte b ≡ high ∷ low ∷ [] → (hex_digit (b / 16) ≡ high) × (hex_digit (b % 16) ≡ low)
unfolding hex_byte
byte-parts b high low h e = (cc, cc)

pub byte-inj : (u v : ℕ) → u < 256 → v < 256 → hex_byte u ≡ hex_byte v → u ≡ v
unfolding hex_byte
byte-inj u v h k e =
    let a : hex_digit (u / 16) ≡ hex_digit (v / 16) = cc in
    let b : hex_digit (u % 16) ≡ hex_digit (v % 16) = cc in
    let x : u / 16 ≡ v / 16 = digit-inj (u / 16) (v / 16) (omega arith) (omega arith) a in
    let y : u % 16 ≡ v % 16 = digit-inj (u % 16) (v % 16) (omega arith) (omega arith) b in
    omega arith

pub word_of : (high low : ℕ) → low < 256 → hex_word (high * 256 + low) ≡ hex_byte high ++ hex_byte low
unfolding hex_word
word_of high low k =
    let a : (high * 256 + low) / 256 ≡ high = omega arith in
    let b : (high * 256 + low) % 256 ≡ low = omega arith in
    rw (a, b)

pub word-parts : (n p q r s : ℕ) → hex_word n ≡ p ∷ q ∷ r ∷ s ∷ []
    → (hex_byte (n / 256) ≡ p ∷ q ∷ []) × (hex_byte (n % 256) ≡ r ∷ s ∷ [])
unfolding hex_word hex_byte
word-parts n p q r s e =
    let a : hex_digit (n / 256 / 16) ≡ p = cc in
    let b : hex_digit (n / 256 % 16) ≡ q = cc in
    let c : hex_digit (n % 256 / 16) ≡ r = cc in
    let d : hex_digit (n % 256 % 16) ≡ s = cc in
    (rw (a, b), rw (c, d))

pub word-inj : (u v : ℕ) → u < 65536 → v < 65536 → hex_word u ≡ hex_word v → u ≡ v
unfolding hex_word hex_byte
word-inj u v h k e =
    let p = word-parts u _ _ _ _ e in
    let q = word-parts v _ _ _ _ refl in
    let x : u / 256 ≡ v / 256 = byte-inj (u / 256) (v / 256) (omega arith) (omega arith) (p.0 ∙ sym q.0) in
    let y : u % 256 ≡ v % 256 = byte-inj (u % 256) (v % 256) (omega arith) (omega arith) (p.1 ∙ sym q.1) in
    omega arith

-- ---- many

pub length-hex : (s : List ℕ) → length (hex_bytes s) ≡ length s * 2
unfolding hex_bytes hex_byte
length-hex [] = refl
length-hex (b ∷ s) = let h : length (hex_bytes s) ≡ length s * 2 = length-hex s in omega arith

pub hex-append : (p q : List ℕ) → hex_bytes (p ++ q) ≡ hex_bytes p ++ hex_bytes q
unfolding hex_bytes hex_byte
hex-append [] q = refl
hex-append (b ∷ p) q = rw (hex-append p q)

-- the digits of the byte at a place
pub digits-at : (p : List ℕ) (i : ℕ) → i < length p → hex_byte (get_or p i 0) ≡ get_or (hex_bytes p) (i * 2) 0 ∷ get_or (hex_bytes p) (i * 2 + 1) 0 ∷ []
unfolding hex_bytes hex_byte
digits-at [] i h = absurd (omega arith)
digits-at (b ∷ p) zero h = refl
digits-at (b ∷ p) (suc i) h =
    let e : suc i * 2 ≡ suc (suc (i * 2)) = omega arith in
    let f : suc (suc (i * 2)) + 1 ≡ suc (suc (i * 2 + 1)) = omega arith in
    rw (e, f) (digits-at p i (omega arith))

pub hex-inj : (s t : List ℕ) → Bytes s → Bytes t → hex_bytes s ≡ hex_bytes t → s ≡ t
unfolding hex_bytes hex_byte
hex-inj [] [] h k e = refl
hex-inj [] (c ∷ t) h k e = absurd (omega (arith, ap length e))
hex-inj (b ∷ s) [] h k e = absurd (omega (arith, ap length e))
hex-inj (b ∷ s) (c ∷ t) h k e =
    let x : hex_digit (b / 16) ≡ hex_digit (c / 16) = cc in
    let y : hex_digit (b % 16) ≡ hex_digit (c % 16) = cc in
    let z : hex_bytes s ≡ hex_bytes t = cc in
    ap₂ (λ (x : ℕ) (l : List ℕ). x ∷ l) (byte-inj b c (bytes-head h) (bytes-head k) (rw (x, y)))
    (hex-inj s t (bytes-tail h) (bytes-tail k) z)
