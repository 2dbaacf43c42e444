-- `verdicts::read_full` is safe and ends: what has been read lies in the room.
-- Assumes nothing.
use Rattle.std.proofs.Common.{◌-◌, ◌≤◌, length}
use Rattle.verdicts.proofs.read_full.Given as goal

abbrev pub invariant-loop-done : goal.invariant-loop-done
invariant-loop-done g l = l.done ≤ length l.s

abbrev pub decreases-loop-done : goal.decreases-loop-done
decreases-loop-done g l = length l.s - l.done
