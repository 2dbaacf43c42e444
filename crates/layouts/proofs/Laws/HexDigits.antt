-- Hex digits: which characters are, and the bytes that they are, there and back.
-- Assumes nothing.
use mathlib.Core.Bool.{Bool, true, false, not, ◌&&◌, ◌||◌}
use mathlib.Core.List.{List, [], ◌∷◌, ◌++◌}
use mathlib.Core.Path.{◌≡◌, refl, sym, ◌∙◌, ap, ap₂}
use Prim.Native.Nat.{ℕ, zero, suc, ◌+◌, ◌-◌, ◌*◌, ◌/◌, ◌%◌, ◌^◌, ◌≤◌, ◌<◌}
use native.Mathlib.Omega.{arith}
use lib.Dec.{T, eqb, leb, eqb→eq, leb→le}
use lib.ListN.{length, get_or, drop, length-drop}
use borrow.Author.Tests.{lt-ltb, le-ltb, leb-true, leb-false, not-true, not-false}
use Rattle.std.specs.Prelude.{Some, None}
use Rattle.digits.proofs.Laws.Bytes.{bytes-nil, bytes-cons, bytes-head, bytes-tail}
use Rattle.digits.proofs.Laws.Hex.{place-digit, place-lt, digit-upper, digit-of, byte_of, byte-parts}
use Rattle.digits.proofs.Laws.Parts.{next}
use Rattle.digits.proofs.Laws.Reads.{answered, refused}
use Rattle.digits.proofs.Laws.Table.{at}
use Rattle.digits.proofs.Laws.Tests.{T_and, T_true}
use Rattle.digits.specs.Paper.Answers.{ReadsByte}
use Rattle.digits.specs.Paper.Ascii.{ascii}
use Rattle.digits.specs.Paper.Bytes.{Bytes}
use Rattle.digits.specs.Paper.Hex.{hex_digit, hex_byte, hex_word, hex_bytes}
use Rattle.digits.specs.Work.Hex.{place_of}
use Rattle.checks.proofs.Laws.Feed.{feed-append, feed-nil}
use Rattle.checks.specs.Paper.Check.{Check, feed}
use Rattle.layouts.specs.Paper.Chars.{one_of, all, is_hex}
use Rattle.layouts.specs.Work.Nikobus.{hex_pair, bytes_of}

-- ---- one digit

-- what is in a list stands at some place of it
record Place (l : List ℕ) (c : ℕ) : Type 0 where
  place : ℕ
  inside : place < length l
  there : get_or l place 0 ≡ c

place_in : (l : List ℕ) (c : ℕ) → T (one_of l c) → Place l c
unfolding one_of
place_in [] c h = absurd h
place_in (y ∷ l) c h = go (eqb c y) refl (λ k. place_in l c k) h
  where
    go : (b : Bool) → eqb c y ≡ b → (T (one_of l c) → Place l c) → T (b || one_of l c) → Place (y ∷ l) c
    go true e f k = record { place = 0; inside = omega arith; there = sym (eqb→eq c y (rw e tt)) }
    go false e f k = let p = f k in record { place = suc p.place; inside = omega (arith, p.inside); there = p.there }

-- a digit is the digit of its place
digit-place : (c : ℕ) → T (is_hex c) → hex_digit (place_of c) ≡ c
unfolding is_hex hex_digit
digit-place c h =
    let p = place_in (ascii "0123456789ABCDEF") c h in
    let e : place_of c ≡ p.place = ap place_of (sym p.there) ∙ place-digit p.place p.inside in
    ap hex_digit e ∙ p.there

pub digit-hex : (v : ℕ) → v < 16 → T (is_hex (hex_digit v))
unfolding is_hex hex_digit one_of
digit-hex v h = at (λ _ c. is_hex c) (ascii "0123456789ABCDEF") tt v h

-- digits are `0` to `9` and `A` to `F`
pub hex-cases : (c : ℕ) (C : Type 0) → T (is_hex c) → (48 ≤ c → c ≤ 57 → C) → (65 ≤ c → c ≤ 70 → C) → C
hex-cases c C h a b =
    let u = rw (digit-place c h) at (digit-upper (place_of c) (place-lt c)) in
    go (leb 48 c && leb c 57) refl u
  where
    go : (t : Bool) → (leb 48 c && leb c 57) ≡ t → T (t || (leb 65 c && leb c 70)) → C
    go true e k = let q : T (leb 48 c) × T (leb c 57) = T_and (leb 48 c) (leb c 57) (rw e tt) in a (leb→le 48 c q.0) (leb→le c 57 q.1)
    go false e k = let q = T_and (leb 65 c) (leb c 70) k in b (leb→le 65 c q.0) (leb→le c 70 q.1)

pub hex-figure : (c : ℕ) → 48 ≤ c → c ≤ 57 → T (is_hex c)
hex-figure c h k =
    let e : hex_digit (c - 48) ≡ c = digit-of (c - 48) (omega arith) ∙ simp (lt-ltb (c - 48) 10 (omega arith)) (omega arith) in
    rw e at (digit-hex (c - 48) (omega arith))

hex-letter : (c : ℕ) → 65 ≤ c → c ≤ 70 → T (is_hex c)
hex-letter c h k =
    let e : hex_digit (c - 55) ≡ c = digit-of (c - 55) (omega arith) ∙ simp (le-ltb (c - 55) 10 (omega arith)) (omega arith) in
    rw e at (digit-hex (c - 55) (omega arith))

pub no-hex : (c : ℕ) → (T (is_hex c) → ⊥) → is_hex c ≡ false
no-hex c f = go (is_hex c) refl
  where
    go : (b : Bool) → is_hex c ≡ b → b ≡ false
    go true e = absurd (f (rw e tt))
    go false e = refl

pub hex-high : (c : ℕ) → 65 ≤ c → leb c 70 ≡ is_hex c
hex-high c h = go (leb c 70) refl
  where
    go : (b : Bool) → leb c 70 ≡ b → b ≡ is_hex c
    go true e = sym (T_true _ (hex-letter c h (leb-true c 70 e)))
    go false e = sym (no-hex c (λ k. hex-cases c ⊥ k (λ x y. omega arith) (λ x y. omega (arith, leb-false c 70 e))))

-- what the code's test tells
pub told-hex : (c : ℕ) {r : Bool} → r ≡ is_hex c → not r ≡ false → T (is_hex c)
told-hex c e f = rw (sym e ∙ not-false _ f) tt

pub told-no-hex : (c : ℕ) {r : Bool} → r ≡ is_hex c → not r ≡ true → T (is_hex c) → ⊥
told-no-hex c e f h = rw (sym e ∙ not-true _ f) at h

-- each of digits is one
pub hex-at : (s : List ℕ) (i : ℕ) → i < length s → T (all is_hex s) → T (is_hex (get_or s i 0))
unfolding all
hex-at [] i h t = absurd (omega arith)
hex-at (x ∷ s) zero h t = (T_and (is_hex x) (all is_hex s) t).0
hex-at (x ∷ s) (suc i) h t = hex-at s i (omega arith) (T_and (is_hex x) (all is_hex s) t).1

-- ---- a byte, and four digits

pub length-byte : (b : ℕ) → length (hex_byte b) ≡ 2
unfolding hex_byte
length-byte b = refl

pub length-word : (n : ℕ) → length (hex_word n) ≡ 4
unfolding hex_word hex_byte
length-word n = refl

pub pair-byte : (b : ℕ) → b < 256 → hex_pair (hex_digit (b / 16)) (hex_digit (b % 16)) ≡ b
pair-byte b h = rw (place-digit (b / 16) (omega arith), place-digit (b % 16) (omega arith)) (omega arith)

pub pair_lt : (x y : ℕ) → hex_pair x y < 256
pair_lt x y = omega (arith, place-lt x, place-lt y)

pub byte_pair : (x y : ℕ) → T (is_hex x) → T (is_hex y) → hex_byte (hex_pair x y) ≡ x ∷ y ∷ []
byte_pair x y h k = byte_of (place_of x) (place_of y) (place-lt x) (place-lt y) ∙ rw (digit-place x h, digit-place y k)

-- what reading two digits answers
module _ {high low b : ℕ} (read : ReadsByte high low (Some b)) where
  pub pair_is : b ≡ hex_pair high low
  pair_is =
      let a = answered (omega arith) read refl in
      let q = byte-parts b high low a.0 a.1 in
      sym (pair-byte b a.0) ∙ rw (q.0, q.1)

  pub pair-hex : T (is_hex high) × T (is_hex low)
  pair-hex =
      let a = answered (omega arith) read refl in
      let q = byte-parts b high low a.0 a.1 in
      (rw q.0 at (digit-hex (b / 16) (omega (arith, a.0))), rw q.1 at (digit-hex (b % 16) (omega (arith, a.0))))

pub pair_read : {high low : ℕ} → T (is_hex high) → T (is_hex low) → ReadsByte high low None → ⊥
pair_read {high} {low} h l d = refused (omega arith) d refl (hex_pair high low) (pair_lt high low) (byte_pair high low h l)

-- ---- bytes

pub bytes-hex : (p : List ℕ) → Bytes p → bytes_of (hex_bytes p) ≡ p
unfolding bytes_of hex_bytes hex_byte
bytes-hex [] h = refl
bytes-hex (b ∷ p) h = ap₂ (λ (x : ℕ) (s : List ℕ). x ∷ s) (pair-byte b (bytes-head h)) (bytes-hex p (bytes-tail h))

pub hex-all : (p : List ℕ) → Bytes p → T (all is_hex (hex_bytes p))
unfolding hex_bytes hex_byte all
hex-all [] h = tt
hex-all (b ∷ p) h =
    let k : b < 256 = bytes-head h in
    rw (T_true (is_hex (hex_digit (b / 16))) (digit-hex (b / 16) (omega arith)), T_true (is_hex (hex_digit (b % 16))) (digit-hex (b % 16) (omega arith)))
    (hex-all p (bytes-tail h))

pub hex-bytes : (n : ℕ) (d : List ℕ) → length d ≡ n * 2 → T (all is_hex d) → hex_bytes (bytes_of d) ≡ d
unfolding hex_bytes bytes_of all
hex-bytes n [] l h = refl
hex-bytes n (x ∷ []) l h = absurd (omega arith)
hex-bytes zero (x ∷ y ∷ d) l h = absurd (omega arith)
hex-bytes (suc n) (x ∷ y ∷ d) l h =
    let a = T_and (is_hex x) (is_hex y && all is_hex d) h in
    let b = T_and (is_hex y) (all is_hex d) a.1 in
    ap₂ (λ (u v : List ℕ). u ++ v) (byte_pair x y a.0 b.0) (hex-bytes n d (omega arith) b.1)

pub length-bytes : (n : ℕ) (d : List ℕ) → length d ≡ n * 2 → length (bytes_of d) ≡ n
unfolding bytes_of
length-bytes zero [] l = refl
length-bytes (suc n) [] l = absurd (omega arith)
length-bytes n (x ∷ []) l = absurd (omega arith)
length-bytes zero (x ∷ y ∷ d) l = absurd (omega arith)
length-bytes (suc n) (x ∷ y ∷ d) l = ap suc (length-bytes n d (omega arith))

pub bytes-bytes : (d : List ℕ) → Bytes (bytes_of d)
unfolding bytes_of
bytes-bytes [] = bytes-nil
bytes-bytes (x ∷ []) = bytes-nil
bytes-bytes (x ∷ y ∷ d) = bytes-cons (pair_lt x y) (bytes-bytes d)

-- ---- a check over the bytes that digits are, two digits a step

pub pairs-step : (k : Check) (s : List ℕ) (i v n : ℕ) → i + 1 < length s → n ≡ feed k v (hex_pair (get_or s i 0) (get_or s (i + 1) 0) ∷ [])
    → feed k n (bytes_of (drop (i + 2) s)) ≡ feed k v (bytes_of (drop i s))
unfolding bytes_of
pairs-step k s i v n h e =
    let x = get_or s i 0 in
    let y = get_or s (i + 1) 0 in
    let two : i + 1 + 1 ≡ i + 2 = omega arith in
    let d : drop i s ≡ x ∷ y ∷ drop (i + 2) s =
    next s i (omega arith) ∙ ap (λ (l : List ℕ). x ∷ l) (next s (i + 1) h ∙ ap (λ (j : ℕ). y ∷ drop j s) two)
    in
    rw (d, e) (sym (feed-append k v (hex_pair x y ∷ []) (bytes_of (drop (i + 2) s))))

short-bytes : (l : List ℕ) → length l ≤ 1 → bytes_of l ≡ []
unfolding bytes_of
short-bytes [] h = refl
short-bytes (x ∷ []) h = refl
short-bytes (x ∷ y ∷ l) h = absurd (omega arith)

pub pairs_end : (k : Check) (s : List ℕ) (i v : ℕ) → v < 2 ^ k.width → length s ≤ i + 1 → v ≡ feed k v (bytes_of (drop i s))
pairs_end k s i v f h =
    let z : bytes_of (drop i s) ≡ [] = short-bytes (drop i s) (omega (arith, length-drop i s)) in
    rw z (sym (feed-nil k v f))
