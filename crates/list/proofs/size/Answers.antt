-- `list::size` meets its contract: with what is left, the sum is the listing's length.
-- Assumes nothing.
use native.Mathlib.Omega.{arith}
use Rattle.lines.proofs.Laws.Types.{in-types}
use Rattle.list.proofs.Laws.Turns.{sums-start, measured-ahead, summed, sum-most, sums-end}
use Rattle.list.proofs.size.Goals as goal

pub loop-line-init : goal.loop-line-init
loop-line-init c = sums-start

pub overflow_add-place : goal.overflow_add-place
overflow_add-place c = let h = measured-ahead c.in-Ok.ensures in omega arith

pub overflow_add-sum : goal.overflow_add-sum
overflow_add-sum c =
    let h = sum-most c.in-Ok.ensures c.loop-line.invariant (in-types c.args.map.now) c.requires in
    omega arith

pub overflow_add-frames : goal.overflow_add-frames
overflow_add-frames c =
    let h = measured-ahead c.in-Ok.ensures in
    omega (arith, c.loop-line.invariant.passed.few)

pub overflow_add-inside : goal.overflow_add-inside
overflow_add-inside c =
    let h = measured-ahead c.in-Ok.ensures in
    omega (arith, c.loop-line.invariant.passed.within-place)

pub loop-line-smaller : goal.loop-line-smaller
loop-line-smaller c =
    let h = measured-ahead c.in-Ok.ensures in
    omega (arith, c.loop-line.invariant.passed.place_in)

pub loop-line-preserved : goal.loop-line-preserved
loop-line-preserved c = summed c.in-Ok.ensures c.loop-line.invariant

pub overflow_sub-s : goal.overflow_sub-s
overflow_sub-s c = omega (arith, c.loop-line.invariant.passed.within-place, c.loop-line.invariant.passed.place_in)

pub returns : goal.returns
returns c = sums-end (in-types c.args.map.now) c.in_default.field-0 c.in_default.ensures c.requires c.loop-line.invariant c.behind.ensures
