-- Whole numbers of any size by their characters: which texts are the digits of one above zero, and which are the text of one.
-- Assumes nothing.
use mathlib.Core.Bool.{Bool, true, false}
use mathlib.Core.List.{List, [], ◌∷◌, ◌++◌, append_assoc, append-nil}
use mathlib.Core.Path.{◌≡◌, refl, sym, ap, subst, ◌∙◌}
use Prim.Native.Nat.{ℕ, zero, suc, ◌+◌, ◌-◌, ◌*◌, ◌/◌, ◌%◌, ◌≤◌, ◌<◌}
use native.Mathlib.Nat.{div-one}
use native.Mathlib.Omega.{arith}
use lib.Dec.{eqb}
use lib.IntN.{pos, negsuc}
use lib.ListN.{length, get_or, drop}
use borrow.Author.Tests.{eqb-true, eqb-false}
use Rattle.digits.proofs.Laws.Decimal.{decimal-small, decimal-more, length_some, chars-digits, no-leading-zero}
use Rattle.digits.proofs.Laws.Parts.{next}
use Rattle.digits.specs.Paper.Decimal.{decimal_digit, decimal}
use Rattle.digits.specs.Paper.Read.{Decides, holds, fails}
use Rattle.digits.specs.Work.Decimal.{guess}
use Rattle.numbers.proofs.Laws.Reader.{Digits}
use Rattle.numbers.specs.Paper.Text.{sign, text_of}
use Rattle.asked.specs.Work.Got.{SpellsWhole, SpellsPositive}

-- ---- the digits of a number above zero

-- a number above zero with digits behind its own
more-digits : (s : List ℕ) (n : ℕ) → 0 < n → Digits s → (0 < guess n s) × (decimal (guess n s) ≡ decimal n ++ s)
unfolding guess
more-digits [] n p d = (p, sym (append-nil (decimal n)))
more-digits (c ∷ s) n p d =
    let b = d.each 0 (omega arith) in
    let m : ℕ = n * 10 + (c + 2) % 10 in
    let q : m / 10 ≡ n = omega (arith, b.0, b.1) in
    let r : decimal_digit (m % 10) ≡ c = omega (arith, b.0, b.1) in
    let e : decimal m ≡ decimal n ++ (c ∷ []) = decimal-more m (omega arith) ∙ rw (q, r) in
    let f = more-digits s m (omega arith) (record { each = λ i h. d.each (suc i) (omega arith) }) in
    (f.0, f.1 ∙ ap (λ (l : List ℕ). l ++ s) e ∙ append_assoc (decimal n) (c ∷ []) s)

all_digits : (d : List ℕ) → 0 < length d → 49 ≤ get_or d 0 0 → Digits d → SpellsPositive d
all_digits [] h k g = absurd (omega arith)
all_digits (c ∷ s) h k g =
    let b = g.each 0 (omega arith) in
    let v : ℕ = c - 48 in
    let e : decimal_digit v ≡ c = omega arith in
    let f = more-digits s v (omega arith) (record { each = λ i l. g.each (suc i) (omega arith) }) in
    (_, f.0, sym (f.1 ∙ ap (λ (l : List ℕ). l ++ s) (decimal-small v (omega (arith, b.1)) ∙ ap (λ (x : ℕ). x ∷ []) e)))

module _ {d : List ℕ} where
  pub no-digits : length d ≡ 0 → Decides (SpellsPositive d) false
  no-digits h = fails (λ (n, p, e). omega (arith, ap length e, length_some n))

  pub zero-first : get_or d 0 0 < 49 → Decides (SpellsPositive d) false
  zero-first h = fails (λ (n, p, e). let l : 48 < get_or d 0 0 = rw e (no-leading-zero n p) in omega arith)

  digit_at : (i n : ℕ) → i < length d → d ≡ decimal n → (48 ≤ get_or d i 0) × (get_or d i 0 ≤ 57)
  digit_at i n h e = subst (λ (s : List ℕ). (48 ≤ get_or s i 0) × (get_or s i 0 ≤ 57)) (sym e) (chars-digits n i (subst (λ (s : List ℕ). i < length s) e h))

  pub below-digit : {i : ℕ} → i < length d → get_or d i 0 < 48 → Decides (SpellsPositive d) false
  below-digit {i} h k = fails (λ (n, p, e). omega (arith, (digit_at i n h e).0))

  pub above-digit : {i : ℕ} → i < length d → 57 < get_or d i 0 → Decides (SpellsPositive d) false
  above-digit {i} h k = fails (λ (n, p, e). omega (arith, (digit_at i n h e).1))

  pub are-digits : {i : ℕ} → 0 < length d → 49 ≤ get_or d 0 0 → length d ≤ i → ((k : ℕ) → k < i → (48 ≤ get_or d k 0) × (get_or d k 0 ≤ 57)) → Decides (SpellsPositive d) true
  are-digits h k l f = holds (all_digits d h k (record { each = λ j m. f j (omega arith) }))

-- ---- the text of a whole number

pub whole-text : (m : Bool) (n : ℕ) → text_of m n 0 ≡ sign m ++ decimal n
unfolding text_of
whole-text m n = ap (λ (l : List ℕ). sign m ++ l) (append-nil (decimal (n / 1)) ∙ ap decimal (div-one n))

-- zero, a number above zero, or one below
by_sign : {C : Type 0} (v : List ℕ) → (v ≡ decimal 0 → C) → ((n : ℕ) → 0 < n → v ≡ decimal n → C) → ((n : ℕ) → 0 < n → v ≡ 45 ∷ decimal n → C) → SpellsWhole v → C
by_sign v f g h (pos zero, e) = f (e ∙ whole-text false 0)
by_sign v f g h (pos (suc n), e) = g (suc n) (omega arith) (e ∙ whole-text false (suc n))
by_sign v f g h (negsuc n, e) = h (suc n) (omega arith) (e ∙ whole-text true (suc n))

zero-text : decimal 0 ≡ 48 ∷ []
zero-text = decimal-small 0 (omega arith)

plain-whole : (v : List ℕ) (n : ℕ) → v ≡ decimal n → SpellsWhole v
plain-whole v n e = (pos n, e ∙ sym (whole-text false n))

minus-whole : (v : List ℕ) (n : ℕ) → 0 < n → v ≡ 45 ∷ decimal n → SpellsWhole v
minus-whole v zero p e = absurd (omega arith)
minus-whole v (suc n) p e = (negsuc n, e ∙ sym (whole-text true (suc n)))

one_char : (v : List ℕ) → length v ≡ 1 → v ≡ get_or v 0 0 ∷ []
one_char [] h = absurd (omega arith)
one_char (c ∷ []) h = refl
one_char (c ∷ d ∷ v) h = absurd (omega arith)

module _ {v : List ℕ} where
  -- the first character of each
  first-zero : v ≡ decimal 0 → get_or v 0 0 ≡ 48
  first-zero e = rw (e, zero-text)

  first_above : (n : ℕ) → 0 < n → v ≡ decimal n → 48 < get_or v 0 0
  first_above n p e = rw e (no-leading-zero n p)

  first-minus : (n : ℕ) → v ≡ 45 ∷ decimal n → get_or v 0 0 ≡ 45
  first-minus n e = rw e

  pub no_whole : length v ≡ 0 → Decides (SpellsWhole v) false
  no_whole h =
      fails (by_sign v (λ e. omega (arith, ap length e, length_some 0)) (λ n p e. omega (arith, ap length e, length_some n)) (λ n p e. omega (arith, ap length e)))

  pub only_zero : get_or v 0 0 ≡ 48 → Decides (SpellsWhole v) (eqb (length v) 1)
  only_zero k = by (eqb (length v) 1) refl
    where
      by : (b : Bool) → eqb (length v) 1 ≡ b → Decides (SpellsWhole v) b
      by true e = holds (plain-whole v 0 (one_char v (eqb-true _ _ e) ∙ ap (λ (x : ℕ). x ∷ []) k ∙ sym zero-text))
      by false e =
          fails (by_sign v (λ f. eqb-false _ _ e (ap length (f ∙ zero-text))) (λ n p f. omega (arith, first_above n p f)) (λ n p f. omega (arith, first-minus n f)))

  pub below-zero : {b : Bool} → 0 < length v → get_or v 0 0 ≡ 45 → Decides (SpellsPositive (drop 1 v)) b → Decides (SpellsWhole v) b
  below-zero h k (holds (n, p, e)) = holds (minus-whole v n p (next v 0 h ∙ rw (k, e)))
  below-zero h k (fails f) =
      fails (by_sign v (λ e. omega (arith, first-zero e)) (λ n p e. omega (arith, first_above n p e)) (λ n p e. f (n, p, ap (λ (l : List ℕ). drop 1 l) e)))

  pub above_zero : {b : Bool} → (get_or v 0 0 ≡ 48 → ⊥) → (get_or v 0 0 ≡ 45 → ⊥) → Decides (SpellsPositive v) b → Decides (SpellsWhole v) b
  above_zero h k (holds (n, p, e)) = holds (plain-whole v n e)
  above_zero h k (fails f) = fails (by_sign v (λ e. h (first-zero e)) (λ n p e. f (n, p, e)) (λ n p e. k (first-minus n e)))
