-- `verdicts::through` is safe and ends: each turn goes to a later place of the capture.
-- Assumes nothing.
use Rattle.std.proofs.Common.{◌-◌, ◌≤◌, length}
use Rattle.verdicts.proofs.through.Given as goal

abbrev pub invariant-loop-place : goal.invariant-loop-place
invariant-loop-place g l = l.place ≤ length l.capture

abbrev pub decreases-loop-place : goal.decreases-loop-place
decreases-loop-place g l = length l.capture - l.place
