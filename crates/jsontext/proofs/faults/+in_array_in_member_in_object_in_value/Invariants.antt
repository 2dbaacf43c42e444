-- What falls is the depth, and at one depth the function. The loops' invariants: what is passed is good.
-- Assumes nothing.
use Prim.Native.Nat.{◌+◌, ◌-◌, ◌*◌}
use mathlib.Core.Bool.{true}
use lib.ListN.{length}
use Rattle.jsontext.specs.Paper.Faults.{any_item, value_stops}
use Rattle.jsontext.specs.Work.Tight.{tight}
use Rattle.jsontext.proofs.Laws.Faults.{Passing, PassingMembers}
use Rattle.jsontext.proofs.faults.+in_array_in_member_in_object_in_value.Given as goal

abbrev pub decreases-in_array : goal.decreases-in_array
decreases-in_array l = 3 * l.depth + 1

abbrev pub decreases-in_member : goal.decreases-in_member
decreases-in_member l = 3 * l.depth + 1

abbrev pub decreases-in_object : goal.decreases-in_object
decreases-in_object l = 3 * l.depth + 2

abbrev pub decreases-in_value : goal.decreases-in_value
decreases-in_value l = 3 * l.depth

abbrev pub invariant-in_array-loop-e : goal.invariant-in_array-loop-e
invariant-in_array-loop-e l = Passing (tight true l.depth) any_item (value_stops l.depth) l.s l.p l.at

abbrev pub decreases-in_array-loop-e : goal.decreases-in_array-loop-e
decreases-in_array-loop-e l = length l.s - l.at

abbrev pub invariant-in_object-loop-e : goal.invariant-in_object-loop-e
invariant-in_object-loop-e l = PassingMembers l.depth l.s l.p l.first l.at

abbrev pub decreases-in_object-loop-e : goal.decreases-in_object-loop-e
decreases-in_object-loop-e l = length l.s - l.at
