-- `layouts::homiq::figures` meets its contract: what is left from the index on completes the run and its number, and four figures fit.
-- Assumes nothing.
use mathlib.Core.Path.{◌≡◌, sym, ◌∙◌, ap}
use Prim.Native.Nat.{ℕ}
use lib.ListN.{length, take}
use Rattle.digits.specs.Work.Decimal.{guess}
use native.Mathlib.Omega.{arith}
use borrow.Author.Rules.{rules}
use Rattle.layouts.specs.Work.Homiq.{is_figure}
use Rattle.layouts.proofs.Laws.HomiqFields.{figuring-start, figuring-small, figuring-next, figuring-end}
use Rattle.layouts.proofs.Laws.Runs.{leading-stop, leading_end}
use Rattle.layouts.proofs.homiq.figures.Goals as goal

pub loop-i-init : goal.loop-i-init
loop-i-init c = figuring-start _

pub returns-then-not-is_figure : goal.returns-then-not-is_figure
returns-then-not-is_figure c = record { end_value = (figuring-end c.loop-i.invariant (leading-stop is_figure _ _ (omega (arith, c.loop-i-test.true)) (sym c.is_figure.ensures ∙ c.if-not-is_figure.true))).0; value_value = (figuring-end c.loop-i.invariant (leading-stop is_figure _ _ (omega (arith, c.loop-i-test.true)) (sym c.is_figure.ensures ∙ c.if-not-is_figure.true))).1 }

pub overflow_mul-v : goal.overflow_mul-v
overflow_mul-v c = let v = figuring-small c.loop-i.invariant (omega (arith, c.loop-i-test.true)) c.requires in search rules

pub overflow_add-v : goal.overflow_add-v
overflow_add-v c = let v = figuring-small c.loop-i.invariant (omega (arith, c.loop-i-test.true)) c.requires in search rules

pub loop-i-preserved : goal.loop-i-preserved
loop-i-preserved c =
    figuring-next c.loop-i.invariant (omega (arith, c.loop-i-test.true)) (sym c.is_figure.ensures ∙ c.if-not-is_figure.false)

pub returns : goal.returns
returns c =
    let g = c.loop-i.invariant in
    let e : c.loop-i.i ≡ length c.args.s.now = omega (arith, c.loop-i-test.false, g.within) in
    let f = figuring-end g (leading_end is_figure _ _ (omega (arith, c.loop-i-test.false))) in
    record { end_value = sym e ∙ f.0; value_value = f.1 ∙ ap (λ (k : ℕ). guess 0 (take k c.args.s.now)) e }
