-- `list::put` meets its contract: the room has room for what is left, and that, put from here on, completes the listing.
-- Assumes nothing.
use native.Mathlib.Omega.{arith}
use Rattle.list.proofs.Laws.Turns.{started, next-ahead, turned, ended}
use Rattle.list.proofs.put.Goals as goal

pub loop-next-init : goal.loop-next-init
loop-next-init c = started (omega arith) c.requires.roomy

pub overflow_add-place : goal.overflow_add-place
overflow_add-place c = let h = next-ahead c.in-Ok.ensures in omega arith

pub overflow_add-frames : goal.overflow_add-frames
overflow_add-frames c =
    let h = next-ahead c.in-Ok.ensures in
    omega (arith, c.loop-next.invariant.passed.few)

pub overflow_add-inside : goal.overflow_add-inside
overflow_add-inside c =
    let h = next-ahead c.in-Ok.ensures in
    omega (arith, c.loop-next.invariant.passed.within-place)

pub loop-next-smaller : goal.loop-next-smaller
loop-next-smaller c =
    let h = next-ahead c.in-Ok.ensures in
    omega (arith, c.loop-next.invariant.passed.place_in)

pub loop-next-preserved : goal.loop-next-preserved
loop-next-preserved c =
    turned c.requires.listable c.loop-next.invariant c.in-Ok.ensures

pub overflow_sub-s : goal.overflow_sub-s
overflow_sub-s c = omega (arith, c.loop-next.invariant.passed.within-place, c.loop-next.invariant.passed.place_in)

pub returns : goal.returns
returns c = ended c.requires.listable c.loop-next.invariant c.in_default.field-0 c.in_default.ensures c.ending.ensures
