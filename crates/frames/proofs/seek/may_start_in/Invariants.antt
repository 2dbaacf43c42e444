-- `frames::seek::may_start_in` meets its contract: if none of the first i places looks like a start, they are passed.
-- Assumes nothing.
use mathlib.Core.Bool.{false}
use mathlib.Core.Path.{◌≡◌}
use Prim.Native.Nat.{◌+◌, ◌-◌, ◌≤◌}
use Rattle.frames.specs.Work.Seek.{Passed}
use Rattle.frames.proofs.seek.may_start_in.Given as goal

abbrev pub invariant-loop-i : goal.invariant-loop-i
invariant-loop-i l = (l.i ≤ 64) × (l.any ≡ false → Passed l.kind l.buffer l.place (l.place + l.i))
