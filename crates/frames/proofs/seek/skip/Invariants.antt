-- `frames::seek::skip` meets its contract: a place where no frame can begin is passed, and so are the places that `next` passes.
-- Assumes nothing.
use Prim.Native.Nat.{◌-◌}
use Rattle.frames.specs.Work.Seek.{Passed}
use Rattle.frames.proofs.seek.skip.Given as goal

abbrev pub invariant-loop-at : goal.invariant-loop-at
invariant-loop-at l = Passed l.kind l.buffer l.place l.at

abbrev pub decreases-loop-at : goal.decreases-loop-at
decreases-loop-at l = l.end - l.at
