-- `frames::seek::may_start_in` meets its contract: if none of the first i places looks like a start, they are passed.
-- Assumes nothing.
use mathlib.Core.Bool.{false}
use mathlib.Core.Path.{◌≡◌}
use Prim.Native.Nat.{◌-◌}
use native.Mathlib.Omega.{arith}
use Rattle.frames.proofs.Laws.Loops.{block-begun, more-passed, neither}
use Rattle.frames.proofs.seek.may_start_in.Goals as goal

pub loop-i-init : goal.loop-i-init
loop-i-init c = (omega arith, λ e. block-begun (omega (arith, c.requires)))

pub overflow_add-place : goal.overflow_add-place
overflow_add-place c = omega (arith, c.well_formed, c.requires, c.loop-i-test.true)

pub looks_like_start-any-requires : goal.looks_like_start-any-requires
looks_like_start-any-requires c = omega (arith, c.requires, c.loop-i-test.true)

pub loop-i-preserved : goal.loop-i-preserved
loop-i-preserved c =
    (omega (arith, c.loop-i-test.true), λ e. let n = neither c.loop-i.any c.looks_like_start-any.result e in more-passed c.loop-i.i (c.loop-i.invariant.1 n.0) (omega (arith, c.requires, c.loop-i-test.true)) (c.looks_like_start-any.ensures n.1))

pub returns : goal.returns
returns c = let e : c.loop-i.i ≡ 64 = omega (arith, c.loop-i.invariant.0, c.loop-i-test.false) in λ f. rw e at (c.loop-i.invariant.1 f)
