-- `numbers::text::after_point` meets its contract: the loop's invariant says that no character passed is a point.
-- Assumes nothing.
use mathlib.Core.Path.{refl, sym, ◌∙◌}
use native.Mathlib.Omega.{arith}
use Rattle.numbers.proofs.Laws.Reader.{point-here, point-later, no-point}
use Rattle.numbers.proofs.text.after_point.Goals as goal

pub loop-i-init : goal.loop-i-init
loop-i-init c = (omega arith, refl)

pub bounds-t-i : goal.bounds-t-i
bounds-t-i c = omega arith

pub overflow_add-result : goal.overflow_add-result
overflow_add-result c = omega arith

pub overflow_sub-result : goal.overflow_sub-result
overflow_sub-result c = omega arith

pub returns-then-t-i-eq46 : goal.returns-then-t-i-eq46
returns-then-t-i-eq46 c =
    point-here c.args.t.now c.loop-i.i c.loop-i-test.true c.if-t-i-eq46.true ∙ c.loop-i.invariant.1

pub loop-i-preserved : goal.loop-i-preserved
loop-i-preserved c =
    (omega arith, point-later c.args.t.now c.loop-i.i c.loop-i-test.true c.if-t-i-eq46.false ∙ c.loop-i.invariant.1)

pub returns : goal.returns
returns c =
    sym (no-point c.args.t.now c.loop-i.i c.loop-i-test.false) ∙ c.loop-i.invariant.1
