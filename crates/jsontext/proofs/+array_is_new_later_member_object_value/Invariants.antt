-- What falls is the depth, and at one depth the reader. The loops' invariants: what is passed is good so far.
-- Assumes nothing.
use Prim.Native.Nat.{◌+◌, ◌-◌, ◌*◌}
use mathlib.Core.Bool.{false}
use lib.ListN.{length}
use Rattle.jsontext.specs.Work.Tight.{tight}
use Rattle.jsontext.proofs.Laws.Lists.{Going}
use Rattle.jsontext.proofs.Laws.Once.{Comparing, Inside}
use Rattle.jsontext.proofs.+array_is_new_later_member_object_value.Given as goal

abbrev pub decreases-array : goal.decreases-array
decreases-array l = 5 * l.depth + 1

abbrev pub decreases-is_new : goal.decreases-is_new
decreases-is_new l = 5 * l.depth + 3

abbrev pub decreases-later : goal.decreases-later
decreases-later l = 5 * l.depth + 2

abbrev pub decreases-member : goal.decreases-member
decreases-member l = 5 * l.depth + 1

abbrev pub decreases-object : goal.decreases-object
decreases-object l = 5 * l.depth + 4

abbrev pub decreases-value : goal.decreases-value
decreases-value l = 5 * l.depth

abbrev pub invariant-array-loop-e : goal.invariant-array-loop-e
invariant-array-loop-e l = Going (tight l.names l.depth) 0x5D l.s l.p l.at

abbrev pub decreases-array-loop-e : goal.decreases-array-loop-e
decreases-array-loop-e l = length l.s - l.at

abbrev pub invariant-is_new-loop-i : goal.invariant-is_new-loop-i
invariant-is_new-loop-i l = Comparing (tight false l.depth) l.s l.first l.at l.i

abbrev pub decreases-is_new-loop-i : goal.decreases-is_new-loop-i
decreases-is_new-loop-i l = l.at - l.i

abbrev pub invariant-object-loop-e : goal.invariant-object-loop-e
invariant-object-loop-e l = Inside l.names l.depth l.s l.p l.first l.at

abbrev pub decreases-object-loop-e : goal.decreases-object-loop-e
decreases-object-loop-e l = length l.s - l.at
