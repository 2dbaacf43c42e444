-- `frames::seek::pass` meets its contract: a block where no place looks like a start is passed, and of another the places before the first that does.
-- Assumes nothing.
use Prim.Native.Nat.{◌-◌}
use lib.ListN.{length}
use Rattle.frames.specs.Work.Seek.{Passed}
use Rattle.frames.proofs.seek.pass.Given as goal

abbrev pub invariant-loop-at : goal.invariant-loop-at
invariant-loop-at l = Passed l.kind l.buffer l.place l.at

abbrev pub decreases-loop-at : goal.decreases-loop-at
decreases-loop-at l = length l.buffer - l.at
