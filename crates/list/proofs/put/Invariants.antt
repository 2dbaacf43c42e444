-- `list::put` meets its contract: the room has room for what is left, and that, put from here on, completes the listing.
-- Assumes nothing.
use Prim.Native.Nat.{◌-◌}
use lib.ListN.{length}
use Rattle.sheet.specs.Paper.Map.{sheet_in}
use Rattle.list.specs.Work.Remaining.{Completes}
use Rattle.list.proofs.put.Given as goal

abbrev pub invariant-loop-next : goal.invariant-loop-next
invariant-loop-next l = Completes (sheet_in l.map) l.kind l.s l.initial.room l.room l.next l.place l.frames l.inside

-- each search begins behind the frame before
abbrev pub decreases-loop-next : goal.decreases-loop-next
decreases-loop-next l = length l.s - l.place
