-- `numbers::text::read` meets its contract: what it answers, it has tried; and the only number whose text it can be is the one tried.
-- Assumes nothing.
use mathlib.Core.Path.{◌≡◌, sym, ap, ◌∙◌, subst}
use mathlib.Core.Bool.{Bool}
use native.Mathlib.Omega.{arith}
use Prim.Native.Nat.{ℕ, ◌<◌, ◌^◌}
use Rattle.std.specs.Prelude.{List}
use lib.IntN.{ℤ}
use mir.Syntax.{w64}
use mir.Val.{SFits}
use Rattle.digits.specs.Paper.Read.{Decides}
use Rattle.digits.proofs.Laws.Tests.{told, untold}
use Rattle.numbers.specs.Paper.Text.{text}
use Rattle.numbers.specs.Work.Text.{minus_first, signed, value}
use Rattle.numbers.proofs.Laws.Range.{refused, passed-back}
use Rattle.numbers.proofs.Laws.Signs.{said, signed-fits}
use Rattle.numbers.proofs.Laws.Reading.{too_long, too_many, out_of_range, is_number, no_number}
use Rattle.numbers.proofs.Laws.Reader.{taken}
use Rattle.numbers.proofs.text.read.Goals as goal

-- the number that the code tries is the one that the text is taken for
tried : (t : List ℕ) {z : ℤ} (b : Bool) (n : ℕ) → z ≡ signed b n → b ≡ minus_first t → n ≡ value 0 t → z ≡ taken t
tried t {z} b n h e f = h ∙ ap (λ (m : Bool). signed m n) e ∙ ap (signed (minus_first t)) f

fits : {z : ℤ} (b : Bool) (n : ℕ) → z ≡ signed b n → n < 2 ^ 48 → SFits w64 z
fits {z} b n h k = subst (SFits w64) (sym h) (signed-fits b n k)

pub returns-then-t-gt12 : goal.returns-then-t-gt12
returns-then-t-gt12 c = too_long _ c.if-t-gt12.true

pub returns-then-decimals-gt3 : goal.returns-then-decimals-gt3
returns-then-decimals-gt3 c = too_many _ (omega (arith, c.after_point-decimals.ensures, c.if-decimals-gt3.true))

pub returns-then-not-in_range : goal.returns-then-not-in_range
returns-then-not-in_range c =
    out_of_range c.args.t.now c.with_sign-raw.result (tried c.args.t.now _ _ c.with_sign-raw.ensures c.minus_first.ensures c.number_in.ensures.0)
    (refused (fits _ _ c.with_sign-raw.ensures c.number_in.ensures.1) c.in_range.ensures c.if-not-in_range.true)

pub returns-then-is_text : goal.returns-then-is_text
returns-then-is_text c =
    is_number c.args.t.now _ _ (passed-back (fits _ _ c.with_sign-raw.ensures c.number_in.ensures.1) c.in_range.ensures c.if-not-in_range.false) c.if-decimals-gt3.false (told c.is_text.ensures c.if-is_text.true)

pub returns : goal.returns
returns c =
    no_number c.args.t.now c.with_sign-raw.result _ (tried c.args.t.now _ _ c.with_sign-raw.ensures c.minus_first.ensures c.number_in.ensures.0) c.after_point-decimals.ensures
    (untold (said (λ (y : ℤ). Decides (text y c.after_point-decimals.result ≡ c.args.t.now) c.is_text.result) c.with_sign-raw.result (fits _ _ c.with_sign-raw.ensures c.number_in.ensures.1) c.is_text.ensures) c.if-is_text.false)
