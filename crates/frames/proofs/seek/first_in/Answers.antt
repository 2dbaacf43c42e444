-- `frames::seek::first_in` meets its contract: of the first i places, `first` is the first that looks like a start.
-- Assumes nothing.
use mathlib.Core.Path.{refl}
use Prim.Native.Nat.{◌-◌}
use native.Mathlib.Omega.{arith}
use Rattle.frames.proofs.Laws.Loops.{block-begun, none_yet, sought-next, sought-end}
use Rattle.frames.proofs.seek.first_in.Goals as goal

pub loop-i-init : goal.loop-i-init
loop-i-init c = (omega arith, none_yet refl (block-begun (omega (arith, c.requires))))

pub overflow_add-place : goal.overflow_add-place
overflow_add-place c = omega (arith, c.well_formed, c.requires, c.loop-i-test.true)

pub looks_like_start-requires : goal.looks_like_start-requires
looks_like_start-requires c = omega (arith, c.requires, c.loop-i-test.true)

pub overflow_cast-i : goal.overflow_cast-i
overflow_cast-i c = omega (arith, c.loop-i-test.true)

pub loop-i-preserved : goal.loop-i-preserved
loop-i-preserved c =
    (omega (arith, c.loop-i-test.true), sought-next c.loop-i-test.true (omega (arith, c.requires, c.loop-i-test.true)) c.looks_like_start.ensures c.index_if.ensures c.least-first.ensures c.loop-i.invariant.1)

pub returns : goal.returns
returns c = sought-end (omega (arith, c.loop-i.invariant.0, c.loop-i-test.false)) c.loop-i.invariant.1
