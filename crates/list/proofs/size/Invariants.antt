-- `list::size` meets its contract: with what is left, the sum is the listing's length.
-- Assumes nothing.
use Prim.Native.Nat.{◌-◌}
use lib.ListN.{length}
use Rattle.sheet.specs.Paper.Map.{sheet_in}
use Rattle.list.specs.Work.Remaining.{Sums}
use Rattle.list.proofs.size.Given as goal

abbrev pub invariant-loop-line : goal.invariant-loop-line
invariant-loop-line l = Sums (sheet_in l.map) l.kind l.s l.sum l.place l.frames l.inside

-- each search begins behind the frame before
abbrev pub decreases-loop-line : goal.decreases-loop-line
decreases-loop-line l = length l.s - l.place
