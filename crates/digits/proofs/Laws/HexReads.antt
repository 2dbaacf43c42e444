-- Reading two digits and four, by the readings of their halves.
-- Assumes nothing.
use Rattle.std.specs.Prelude.{Option, None, Some}
use mathlib.Core.Path.{◌≡◌, refl, sym, ap, ◌∙◌, subst}
use mathlib.Core.List.{List, [], ◌∷◌}
use Prim.Native.Nat.{ℕ, ◌+◌, ◌*◌, ◌/◌, ◌%◌, ◌<◌}
use native.Mathlib.Omega.{arith}
use lib.ListN.{length, get_or}
use Rattle.digits.specs.Paper.Hex.{hex_digit, hex_byte}
use Rattle.digits.specs.Paper.Read.{is, none}
use Rattle.digits.specs.Paper.Answers.{ReadsDigit, ReadsByte, ReadsWord}
use Rattle.digits.proofs.Laws.Reads.{answered, refused}
use Rattle.digits.proofs.Laws.Hex.{byte_of, byte-parts, word_of, word-parts}

five : 0 < 5
five = omega arith

-- ---- two digits

digit-is : {c v : ℕ} {r : Option ℕ} → ReadsDigit c r → r ≡ Some v → (v < 16) × (hex_digit v ≡ c)
digit-is {c} {v} {r} d e =
    let a = answered five (subst (ReadsDigit c) e d) refl in
    (a.0, cc a.1)

digit-none : {c : ℕ} {r : Option ℕ} → ReadsDigit c r → r ≡ None → (v : ℕ) → v < 16 → hex_digit v ≡ c → ⊥
digit-none {c} {r} d e v h f = refused five (subst (ReadsDigit c) e d) refl v h (ap (λ (x : ℕ). x ∷ []) f)

pub no-high : {high low : ℕ} {r : Option ℕ} → ReadsDigit high r → r ≡ None → ReadsByte high low None
no-high {high} {low} d e =
    none (λ v h f. digit-none d e (v / 16) (omega arith) (byte-parts v high low h f).0)

pub no-low : {high low : ℕ} {r : Option ℕ} → ReadsDigit low r → r ≡ None → ReadsByte high low None
no-low {high} {low} d e =
    none (λ v h f. digit-none d e (v % 16) (omega arith) (byte-parts v high low h f).1)

pub digit_lt : {c v : ℕ} {r : Option ℕ} → ReadsDigit c r → r ≡ Some v → v < 16
digit_lt d e = (digit-is d e).0

pub both-digits : {high low h l : ℕ} {r q : Option ℕ} → ReadsDigit high r → r ≡ Some h → ReadsDigit low q → q ≡ Some l
    → ReadsByte high low (Some (h * 16 + l))
both-digits {high} {low} {h} {l} d e f g =
    let x = digit-is d e in
    let y = digit-is f g in
    is {v = h * 16 + l} (omega arith) (byte_of h l x.0 y.0 ∙ rw (x.1, y.1))

-- ---- four, the characters of d

byte-is : {p q v : ℕ} {r : Option ℕ} → ReadsByte p q r → r ≡ Some v → (v < 256) × (hex_byte v ≡ p ∷ q ∷ [])
byte-is {p} {q} {v} {r} d e = answered five (subst (ReadsByte p q) e d) refl

byte-none : {p q : ℕ} {r : Option ℕ} → ReadsByte p q r → r ≡ None → (v : ℕ) → v < 256 → hex_byte v ≡ p ∷ q ∷ [] → ⊥
byte-none {p} {q} {r} d e v h f = refused five (subst (ReadsByte p q) e d) refl v h f

-- four characters, one by one
four : (d : List ℕ) → length d ≡ 4 → d ≡ get_or d 0 0 ∷ get_or d 1 0 ∷ get_or d 2 0 ∷ get_or d 3 0 ∷ []
four [] e = absurd (omega arith)
four (a ∷ []) e = absurd (omega arith)
four (a ∷ b ∷ []) e = absurd (omega arith)
four (a ∷ b ∷ c ∷ []) e = absurd (omega arith)
four (a ∷ b ∷ c ∷ d ∷ []) e = refl
four (a ∷ b ∷ c ∷ d ∷ f ∷ s) e = absurd (omega arith)

module _ (d : List ℕ) (n : length d ≡ 4) where
  pub no_front : {r : Option ℕ} → ReadsByte (get_or d 0 0) (get_or d 1 0) r → r ≡ None → ReadsWord d None
  no_front b e =
      none (λ v h f. byte-none b e (v / 256) (omega arith) (word-parts v _ _ _ _ (f ∙ four d n)).0)

  pub no-back : {r : Option ℕ} → ReadsByte (get_or d 2 0) (get_or d 3 0) r → r ≡ None → ReadsWord d None
  no-back b e =
      none (λ v h f. byte-none b e (v % 256) (omega arith) (word-parts v _ _ _ _ (f ∙ four d n)).1)

  pub both_bytes : {h l : ℕ} {r q : Option ℕ} → ReadsByte (get_or d 0 0) (get_or d 1 0) r → r ≡ Some h → ReadsByte (get_or d 2 0) (get_or d 3 0) q → q ≡ Some l
      → ReadsWord d (Some (h * 256 + l))
  both_bytes {h} {l} b e f g =
      let x = byte-is b e in
      let y = byte-is f g in
      is {v = h * 256 + l} (omega arith) (word_of h l y.0 ∙ rw (x.1, y.1) (sym (four d n)))
