-- The reader's code units are those that the string is spelt with; and how a cursor goes through them.
-- Assumes nothing.
use mathlib.Core.Bool.{Bool, true, false, cond}
use mathlib.Core.Logic.{⊎_elim}
use mathlib.Core.Path.{◌≡◌, refl, sym, ap, subst, ◌∙◌}
use mathlib.Core.List.{List, [], ◌∷◌, ◌++◌, append_assoc}
use Prim.Native.Nat.{ℕ, zero, suc, ◌+◌, ◌-◌, ◌*◌, ◌/◌, ◌%◌, ◌≤◌, ◌<◌}
use native.Mathlib.Omega.{arith}
use lib.Dec.{eqb, ltb}
use lib.ListN.{length, get_or, drop, length-drop}
use lib.Seq.{drop-append_seam}
use borrow.Author.Tests.{eq-eqb, ne_eqb, lt-ltb, le-ltb}
use Rattle.jsontext.specs.Paper.Json.{char, string}
use Rattle.jsontext.specs.Paper.Names as names
use Rattle.jsontext.specs.Paper.Names.{utf8, utf16, Unescaped, Short, Hex, Char, Chars, spelt, quoted}
use Rattle.jsontext.specs.Work.Units.{hex_value, short_value, size_of, escape_of, two_of, three_of, four_of, high_of, low_of, units_of, units_in, units, name_in}
use Rattle.jsontext.proofs.Laws.Chars.{less, char-quote, char-never}
use Rattle.jsontext.proofs.Laws.Spelt.{bytes-1, bytes_2, bytes-3, bytes_4, a-char, string-spelt}

-- ---- one character after the other

-- a choice is within what both sides are within
either : {low high x y : ℕ} (b : Bool) → (low ≤ x) × (x ≤ high) → (low ≤ y) × (y ≤ high) → (low ≤ cond b x y) × (cond b x y ≤ high)
either true h k = h
either false h k = k

-- a character has one to six bytes
pub size-some : (s : List ℕ) → (1 ≤ size_of s) × (size_of s ≤ 6)
unfolding size_of
size-some s =
    either (eqb (get_or s 0 0) 0x5C) (either (eqb (get_or s 1 0) 0x75) (omega arith) (omega arith))
    (either (ltb (get_or s 0 0) 0x80) (omega arith) (either (ltb (get_or s 0 0) 0xE0) (omega arith) (either (ltb (get_or s 0 0) 0xF0) (omega arith) (omega arith))))

-- so less is left behind it
left : (b : ℕ) (s : List ℕ) → length (drop (size_of (b ∷ s)) (b ∷ s)) ≤ length s
left b s = rw length-drop (omega (arith, size-some (b ∷ s)))

-- any two bounds that are enough give the same
enough : (n m : ℕ) (s : List ℕ) → length s ≤ n → length s ≤ m → units_in n s ≡ units_in m s
unfolding units_in
enough zero zero s h k = refl
enough zero (suc m) [] h k = refl
enough zero (suc m) (b ∷ s) h k = absurd (omega arith)
enough (suc n) zero [] h k = refl
enough (suc n) zero (b ∷ s) h k = absurd (omega arith)
enough (suc n) (suc m) [] h k = refl
enough (suc n) (suc m) (b ∷ s) h k =
    let rest : List ℕ = drop (size_of (b ∷ s)) (b ∷ s) in
    ap {B = List ℕ} (λ l. cond (eqb b 0x22) [] (units_of (b ∷ s) ++ l)) (enough n m rest (omega (arith, left b s)) (omega (arith, left b s)))

-- a cursor's way: the end, the quotation mark, a character
pub units-end : units [] ≡ []
unfolding units units_in
units-end = refl

pub units-quote : (u : List ℕ) → units (0x22 ∷ u) ≡ []
unfolding units units_in
units-quote u = refl

pub units-step : (b : ℕ) (u : List ℕ) → ((b ≡ 0x22) → ⊥) → units (b ∷ u) ≡ units_of (b ∷ u) ++ units (drop (size_of (b ∷ u)) (b ∷ u))
unfolding units units_in
units-step b u n =
    let rest : List ℕ = drop (size_of (b ∷ u)) (b ∷ u) in
    simp (ne_eqb b 0x22 n) (ap {B = List ℕ} (λ l. units_of (b ∷ u) ++ l) (enough (length u) (length rest) rest (left b u) (omega arith)))

-- ---- what is spelt

-- the reader's units of the character at the head of s, and how many bytes it goes on
pub record Reads (s us : List ℕ) (n : ℕ) : Type 0 where
  pub units : units_of s ≡ us
  pub size : size_of s ≡ n

-- by the first byte, and behind `\` by the second
module _ (s : List ℕ) where
  pub reads_short : get_or s 0 0 ≡ 0x5C → ((get_or s 1 0 ≡ 0x75) → ⊥) → Reads s (short_value (get_or s 1 0) ∷ []) 2
  unfolding units_of size_of escape_of
  reads_short h k =
      let a : eqb (get_or s 0 0) 0x5C ≡ true = eq-eqb (get_or s 0 0) 0x5C h in
      let b : eqb (get_or s 1 0) 0x75 ≡ false = ne_eqb (get_or s 1 0) 0x75 k in
      record { units = simp (a, b); size = simp (a, b) }

  pub reads-code : get_or s 0 0 ≡ 0x5C → get_or s 1 0 ≡ 0x75
      → Reads s ((((hex_value (get_or s 2 0) * 16 + hex_value (get_or s 3 0)) * 16 + hex_value (get_or s 4 0)) * 16 + hex_value (get_or s 5 0)) ∷ []) 6
  unfolding units_of size_of escape_of
  reads-code h k =
      let a : eqb (get_or s 0 0) 0x5C ≡ true = eq-eqb (get_or s 0 0) 0x5C h in
      let b : eqb (get_or s 1 0) 0x75 ≡ true = eq-eqb (get_or s 1 0) 0x75 k in
      record { units = simp (a, b); size = simp (a, b) }

  pub reads-1 : ((get_or s 0 0 ≡ 0x5C) → ⊥) → get_or s 0 0 < 0x80 → Reads s (get_or s 0 0 ∷ []) 1
  unfolding units_of size_of
  reads-1 n h =
      let a : eqb (get_or s 0 0) 0x5C ≡ false = ne_eqb (get_or s 0 0) 0x5C n in
      let b : ltb (get_or s 0 0) 0x80 ≡ true = lt-ltb (get_or s 0 0) 0x80 h in
      record { units = simp (a, b); size = simp (a, b) }

  pub reads-2 : 0x80 ≤ get_or s 0 0 → get_or s 0 0 < 0xE0 → Reads s (two_of s ∷ []) 2
  unfolding units_of size_of
  reads-2 h k =
      let a : eqb (get_or s 0 0) 0x5C ≡ false = ne_eqb (get_or s 0 0) 0x5C (omega arith) in
      let b : ltb (get_or s 0 0) 0x80 ≡ false = le-ltb (get_or s 0 0) 0x80 h in
      let c : ltb (get_or s 0 0) 0xE0 ≡ true = lt-ltb (get_or s 0 0) 0xE0 k in
      record { units = simp (a, b, c); size = simp (a, b, c) }

  pub reads-3 : 0xE0 ≤ get_or s 0 0 → get_or s 0 0 < 0xF0 → Reads s (three_of s ∷ []) 3
  unfolding units_of size_of
  reads-3 h k =
      let a : eqb (get_or s 0 0) 0x5C ≡ false = ne_eqb (get_or s 0 0) 0x5C (omega arith) in
      let b : ltb (get_or s 0 0) 0x80 ≡ false = le-ltb (get_or s 0 0) 0x80 (omega arith) in
      let c : ltb (get_or s 0 0) 0xE0 ≡ false = le-ltb (get_or s 0 0) 0xE0 h in
      let d : ltb (get_or s 0 0) 0xF0 ≡ true = lt-ltb (get_or s 0 0) 0xF0 k in
      record { units = simp (a, b, c, d); size = simp (a, b, c, d) }

  pub reads-4 : 0xF0 ≤ get_or s 0 0 → Reads s (high_of (four_of s) ∷ low_of (four_of s) ∷ []) 4
  unfolding units_of size_of
  reads-4 h =
      let a : eqb (get_or s 0 0) 0x5C ≡ false = ne_eqb (get_or s 0 0) 0x5C (omega arith) in
      let b : ltb (get_or s 0 0) 0x80 ≡ false = le-ltb (get_or s 0 0) 0x80 (omega arith) in
      let c : ltb (get_or s 0 0) 0xE0 ≡ false = le-ltb (get_or s 0 0) 0xE0 (omega arith) in
      let d : ltb (get_or s 0 0) 0xF0 ≡ false = le-ltb (get_or s 0 0) 0xF0 h in
      record { units = simp (a, b, c, d); size = simp (a, b, c, d) }

-- the code units of a character, by how many there are
module _ (c : ℕ) where
  one_unit : c < 0x10000 → utf16 c ≡ c ∷ []
  unfolding utf16
  one_unit h = simp (lt-ltb c 0x10000 h)

  two-units : 0x10000 ≤ c → utf16 c ≡ high_of c ∷ low_of c ∷ []
  unfolding utf16
  two-units h =
      let d : 0xD800 + (c - 0x10000) / 0x400 ≡ 0xD7C0 + c / 0x400 = omega arith in
      let e : (c - 0x10000) % 0x400 ≡ c % 0x400 = omega arith in
      simp (le-ltb c 0x10000 h, d, e)

-- the six bits of a byte behind the first
six : (y : ℕ) → (0x80 + y % 64) % 64 ≡ y % 64
six y = omega arith

-- a character that stands for itself
module _ (c : ℕ) (x : List ℕ) where
  in-2 : 0x80 ≤ c → c < 0x800 → Reads (utf8 c ++ x) (utf16 c) (length (utf8 c))
  unfolding two_of
  in-2 h k =
      let s : List ℕ = (0xC0 + c / 64) ∷ (0x80 + c % 64) ∷ x in
      let v : two_of s ≡ c = omega arith in
      rw (bytes_2 c h k, one_unit c (omega arith)) (rw v at (reads-2 s (omega arith) (omega arith)))

  in-3 : 0x800 ≤ c → c < 0x10000 → Reads (utf8 c ++ x) (utf16 c) (length (utf8 c))
  unfolding three_of
  in-3 h k =
      let s : List ℕ = (0xE0 + c / 4096) ∷ (0x80 + c / 64 % 64) ∷ (0x80 + c % 64) ∷ x in
      let v : three_of s ≡ c = omega arith in
      rw (bytes-3 c h k, one_unit c k) (rw v at (reads-3 s (omega arith) (omega arith)))

  in-4 : 0x10000 ≤ c → c ≤ 0x10FFFF → Reads (utf8 c ++ x) (utf16 c) (length (utf8 c))
  unfolding four_of
  in-4 h k =
      let a : (0xF0 + c / 262144) % 8 ≡ c / 262144 = omega arith in
      let s : List ℕ = (0xF0 + c / 262144) ∷ (0x80 + c / 4096 % 64) ∷ (0x80 + c / 64 % 64) ∷ (0x80 + c % 64) ∷ x in
      let v : four_of s ≡ c = simp (a, six) (omega arith) in
      rw (bytes_4 c h, two-units c h) (rw v at (reads-4 s (omega arith)))

  itself : Unescaped c → Reads (utf8 c ++ x) (utf16 c) (length (utf8 c))
  itself k =
      ⊎_elim (λ h. rw (bytes-1 c h, one_unit c (omega arith)) (reads-1 (c ∷ x) k.no-escape h))
      (λ h. ⊎_elim (in-2 h)
      (λ l. ⊎_elim (in-3 l) (λ m. in-4 m k.high) (less c 0x10000)) (less c 0x800)) (less c 0x80)

-- what stands behind `\`
short-value : {b v : ℕ} → Short b v → ((b ≡ 0x75) → ⊥) × (short_value b ≡ v)
unfolding short_value
short-value names.quotation-mark = (omega arith, refl)
short-value names.reverse-solidus = (omega arith, refl)
short-value names.solidus = (omega arith, refl)
short-value names.backspace = (omega arith, refl)
short-value names.form-feed = (omega arith, refl)
short-value names.line-feed = (omega arith, refl)
short-value names.carriage-return = (omega arith, refl)
short-value names.tab = (omega arith, refl)

hex-value : {a v : ℕ} → Hex a v → hex_value a ≡ v
unfolding hex_value
hex-value (names.digit {v = v} h) = simp (lt-ltb (0x30 + v) 0x40 (omega arith)) (omega arith)
hex-value (names.upper {v = v} h) = simp (le-ltb (0x41 + v) 0x40 (omega arith)) (omega arith)
hex-value (names.lower {v = v} h) = simp (le-ltb (0x61 + v) 0x40 (omega arith)) (omega arith)

-- a character's units are the reader's, whatever stands behind it
pub of_char : {w us : List ℕ} (x : List ℕ) → Char w us → Reads (w ++ x) us (length w)
of_char x (names.unescaped {c = c} k) = itself c x k
of_char x (names.escaped {b = b} h) = rw (short-value h).1 at (reads_short (0x5C ∷ b ∷ x) refl (short-value h).0)
of_char x (names.code {a = a} {b = b} {c = c} {d = d} {p = p} {q = q} {r = r} {s = s} h i j k) =
    let v : ((p * 16 + q) * 16 + r) * 16 + s ≡ p * 4096 + q * 256 + r * 16 + s = omega arith in
    rw (hex-value h, hex-value i, hex-value j, hex-value k, v) at (reads-code (0x5C ∷ 0x75 ∷ a ∷ b ∷ c ∷ d ∷ x) refl refl)

-- a character has a first byte, and that is no quotation mark
pub record Starts (w : List ℕ) : Type 0 where
  pub first : ℕ
  pub behind : List ℕ
  pub there : w ≡ first ∷ behind
  pub no-quote : (first ≡ 0x22) → ⊥

pub starts : {w us : List ℕ} → Char w us → Starts w
starts {w} c = by w (a-char [] c)
  where
    by : (w : List ℕ) → char (w ++ []) [] → Starts w
    by [] x = absurd (char-never [] x)
    by (b ∷ v) x =
        record {
          first = b;
          behind = v;
          there = refl;
          no-quote = λ e. char-quote (v ++ []) [] (subst (λ (n : ℕ). char (n ∷ (v ++ [])) []) e x);
        }

-- the units go on behind a character
pub units-char : {w us : List ℕ} (x : List ℕ) → Char w us → units (w ++ x) ≡ us ++ units x
units-char {w} {us} x c = by (starts c) (of_char x c) (drop-append_seam w x)
  where
    by : Starts w → Reads (w ++ x) us (length w) → drop (length w) (w ++ x) ≡ x → units (w ++ x) ≡ us ++ units x
    by s r d =
        let e : w ++ x ≡ s.first ∷ (s.behind ++ x) = ap {B = List ℕ} (λ l. l ++ x) s.there in
        cc (units-step s.first (s.behind ++ x) s.no-quote)

units-chars : {w us : List ℕ} (t : List ℕ) → Chars w us → units (w ++ (0x22 ∷ t)) ≡ us
units-chars t names.none = units-quote t
units-chars t (names.more {us = us} {x = x} c r) =
    rw append_assoc (units-char (x ++ (0x22 ∷ t)) c ∙ ap {B = List ℕ} (λ l. us ++ l) (units-chars t r))

-- a string has one list of units, and that is what the reader finds
pub units_of_lem : {us s t : List ℕ} → spelt us s t → name_in s ≡ us
unfolding name_in
units_of_lem (quoted {t = t} c e) = rw e (units-chars t c)

pub one_name : {us vs s t u : List ℕ} → spelt us s t → spelt vs s u → us ≡ vs
one_name x y = sym (units_of_lem x) ∙ units_of_lem y

pub named : {s t : List ℕ} → string s t → spelt (name_in s) s t
named {s} {t} x = let (us, y) = string-spelt x in subst (λ (l : List ℕ). spelt l s t) (sym (units_of_lem y)) y
