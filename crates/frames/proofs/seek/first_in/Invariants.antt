-- `frames::seek::first_in` meets its contract: of the first i places, `first` is the first that looks like a start.
-- Assumes nothing.
use Prim.Native.Nat.{◌-◌, ◌≤◌}
use Rattle.frames.proofs.Laws.Loops.{Sought}
use Rattle.frames.proofs.seek.first_in.Given as goal

abbrev pub invariant-loop-i : goal.invariant-loop-i
invariant-loop-i l = (l.i ≤ 64) × Sought l.kind l.buffer l.place l.i l.first
