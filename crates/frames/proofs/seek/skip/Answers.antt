-- `frames::seek::skip` meets its contract: a place where no frame can begin is passed, and so are the places that `next` passes.
-- Assumes nothing.
use mathlib.Core.Path.{sym, ◌∙◌}
use Prim.Native.Nat.{◌-◌}
use native.Mathlib.Omega.{arith}
use Rattle.frames.proofs.Laws.Loops.{none_passed, one-passed, then-passed, rest-passed}
use Rattle.frames.proofs.seek.skip.Goals as goal

pub returns-then-buffer-lt3 : goal.returns-then-buffer-lt3
returns-then-buffer-lt3 c = rest-passed c.requires (omega (arith, c.if-buffer-lt3.true))

pub overflow_sub-end : goal.overflow_sub-end
overflow_sub-end c = omega (arith, c.if-buffer-lt3.false)

pub loop-at-init : goal.loop-at-init
loop-at-init c = none_passed c.requires

pub may_start-requires : goal.may_start-requires
may_start-requires c = omega (arith, c.loop-at-test.true, c.if-buffer-lt3.false)

pub returns-then-may_start : goal.returns-then-may_start
returns-then-may_start c = c.loop-at.invariant

pub overflow_add-at : goal.overflow_add-at
overflow_add-at c = omega (arith, c.loop-at-test.true, c.well_formed)

pub overflow_add-at-in-loop-at : goal.overflow_add-at-in-loop-at
overflow_add-at-in-loop-at c = omega (arith, c.loop-at-test.true, c.well_formed)

pub overflow_sub-at : goal.overflow_sub-at
overflow_sub-at c = omega (arith, c.loop-at.invariant.onward)

pub next-at-requires : goal.next-at-requires
next-at-requires c = omega (arith, c.loop-at-test.true, c.if-buffer-lt3.false)

pub loop-at-smaller : goal.loop-at-smaller
loop-at-smaller c = omega (arith, c.next-at.ensures.onward, c.loop-at-test.true)

pub loop-at-preserved : goal.loop-at-preserved
loop-at-preserved c =
    then-passed c.loop-at.invariant
    (then-passed (one-passed (omega (arith, c.loop-at-test.true, c.if-buffer-lt3.false)) (sym c.may_start.ensures ∙ c.if-may_start.false))
    c.next-at.ensures)

pub returns : goal.returns
returns c =
    then-passed c.loop-at.invariant (rest-passed c.loop-at.invariant.within (omega (arith, c.loop-at-test.false, c.if-buffer-lt3.false)))
