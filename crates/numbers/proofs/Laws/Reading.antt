-- What reading a text, and reading bytes, answers, way by way.
-- Assumes nothing.
use Rattle.std.specs.Prelude.{Err, Ok}
use mathlib.Core.Path.{◌≡◌, sym, ap, ◌∙◌, subst}
use mathlib.Core.Bool.{Bool}
use mathlib.Core.List.{List}
use Prim.Native.Nat.{ℕ, ◌^◌, ◌≤◌, ◌<◌}
use native.Mathlib.Omega.{arith}
use lib.Dec.{lit<}
use lib.IntN.{ℤ, nat_abs}
use lib.ListN.{length}
use Rattle.digits.specs.Paper.LowFirst.{Width, low_byte_first}
use Rattle.digits.specs.Paper.Read.{is, none}
use Rattle.digits.specs.Paper.Refusals.{answers, refuses}
use Rattle.digits.specs.declared.refusal.Refusal.TheVariants.{OutOfLimits, BadForm}
use Rattle.numbers.specs.Paper.Raw.{Raw, most_decimals}
use Rattle.numbers.specs.Paper.Text.{below_zero, text}
use Rattle.numbers.specs.Paper.Answers as A
use Rattle.numbers.specs.Paper.Answers.{ReadsText, ValueIn, AnswersValue}
use Rattle.numbers.specs.Work.Text.{behind}
use Rattle.numbers.specs.Paper.ByteValues.{of_twos}
use Rattle.numbers.proofs.Laws.Causes.{first-7, first-5, no-cause, bytes-only, width-known, count-right, no-room-asked}
use Rattle.numbers.proofs.Laws.Signs.{magnitude-lt}
use Rattle.numbers.proofs.Laws.Text.{text-short}
use Rattle.numbers.proofs.Laws.Reader.{taken, behind-text, taken-text}
use Rattle.numbers.proofs.Laws.Values.{size, in_held, of-twos}

-- ---- text::read

module _ (t : List ℕ) where
  -- a number's text is at most twelve characters long, with at most three behind the point
  pub too_long : 12 < length t → ReadsText t (Err BadForm)
  too_long h =
      none (λ n l e.
      let short = text-short (below_zero n.raw) (nat_abs n.raw) n.decimals (magnitude-lt n.raw l.in-range) l.few in
      omega (arith, short, ap length e))

  pub too_many : most_decimals < behind t → ReadsText t (Err BadForm)
  too_many h =
      none (λ n l e. omega (arith, l.few, behind-text (below_zero n.raw) (nat_abs n.raw) n.decimals, ap behind e))

  -- the only number whose text t can be is the one that it is taken for
  the_number : {z y : ℤ} (d : ℕ) → y ≡ taken t → text z d ≡ t → z ≡ y
  the_number {z} {y} d e p = sym (taken-text z d) ∙ ap taken p ∙ sym e

  pub out_of_range : (y : ℤ) → y ≡ taken t → (Raw y → ⊥) → ReadsText t (Err BadForm)
  out_of_range y e f = none (λ n l p. f (subst Raw (the_number n.decimals e p) l.in-range))

  pub is_number : (y : ℤ) (d : ℕ) → Raw y → d ≤ most_decimals → text y d ≡ t → ReadsText t (Ok (record { raw = y; decimals = d }))
  is_number y d r h p = is {v = record { raw = y; decimals = d }} (record { in-range = r; few = h }) p

  pub no_number : (y : ℤ) (d : ℕ) → y ≡ taken t → d ≡ behind t → (text y d ≡ t → ⊥) → ReadsText t (Err BadForm)
  no_number y d e g f =
      none (λ n l p.
      let same : n.decimals ≡ d = sym (behind-text (below_zero n.raw) (nat_abs n.raw) n.decimals) ∙ ap behind p ∙ sym g in
      let raw : n.raw ≡ y = the_number n.decimals e p in
      f (ap (λ (x : ℕ). text y x) (sym same) ∙ ap (λ (x : ℤ). text x n.decimals) (sym raw) ∙ p))

-- ---- byte_values::read

module _ (w : ℕ) (signed : Bool) (s : List ℕ) where
  pub unknown-width : (Width w → ⊥) → AnswersValue w signed s (Err BadForm)
  unknown-width f = refuses (lit< tt) (first-7 bytes-only (A.width f))

  module _ (known : Width w) where
    pub other-count : (length s ≡ w → ⊥) → AnswersValue w signed s (Err OutOfLimits)
    other-count f = refuses (lit< tt) (first-5 bytes-only (width-known known) (A.count f))

    pub value_read : (n : ℕ) {z : ℤ} → length s ≡ w → n < 256 ^ w → low_byte_first (length s) n ≡ s → z ≡ of_twos w signed n → AnswersValue w signed s (Ok z)
    value_read n {z} e h b f =
        let o = of-twos (size known) signed n h in
        answers (no-cause bytes-only (width-known known) (count-right e) no-room-asked)
        (subst (ValueIn w signed s) (sym f)
        (record { known = known; held = in_held (size known) o.0; bytes = ap (low_byte_first w) o.1 ∙ ap (λ (k : ℕ). low_byte_first k n) (sym e) ∙ b }))
