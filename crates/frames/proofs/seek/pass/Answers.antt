-- `frames::seek::pass` meets its contract: a block where no place looks like a start is passed, and of another the places before the first that does.
-- Assumes nothing.
use Prim.Native.Nat.{◌-◌}
use native.Mathlib.Omega.{arith}
use Rattle.frames.proofs.Laws.Loops.{none_passed, then-passed}
use Rattle.frames.proofs.seek.pass.Goals as goal

pub overflow_sub-end : goal.overflow_sub-end
overflow_sub-end c = omega (arith, c.requires)

pub loop-at-init : goal.loop-at-init
loop-at-init c = none_passed (omega (arith, c.requires))

pub overflow_add-at : goal.overflow_add-at
overflow_add-at c = omega (arith, c.loop-at.invariant.within, c.well_formed)

pub may_start_in-requires : goal.may_start_in-requires
may_start_in-requires c = omega (arith, c.loop-at-test.true, c.requires)

pub first_in-requires : goal.first_in-requires
first_in-requires c = omega (arith, c.loop-at-test.true, c.requires)

pub overflow_cast-result : goal.overflow_cast-result
overflow_cast-result c = omega (arith, c.first_in.ensures.within, c.well_formed)

pub overflow_add-result : goal.overflow_add-result
overflow_add-result c = omega (arith, c.first_in.ensures.within, c.well_formed)

pub returns-then-may_start_in : goal.returns-then-may_start_in
returns-then-may_start_in c = then-passed c.loop-at.invariant c.first_in.ensures

pub overflow_add-at-in-loop-at : goal.overflow_add-at-in-loop-at
overflow_add-at-in-loop-at c = omega (arith, c.loop-at-test.true, c.well_formed)

pub loop-at-smaller : goal.loop-at-smaller
loop-at-smaller c = omega (arith, c.loop-at-test.true, c.requires)

pub loop-at-preserved : goal.loop-at-preserved
loop-at-preserved c = then-passed c.loop-at.invariant (c.may_start_in.ensures c.if-may_start_in.false)

pub returns : goal.returns
returns c = c.loop-at.invariant
