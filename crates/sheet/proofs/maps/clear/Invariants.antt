-- `sheet::maps::clear` meets its contract. The invariant of both loops: the bytes passed are 0.
-- Assumes nothing.
use mathlib.Core.Path.{◌≡◌}
use mathlib.Core.List.{◌++◌}
use Prim.Native.Nat.{◌-◌, ◌≤◌}
use lib.ListN.{length, drop}
use Rattle.sheet.specs.Work.Maps.{zeros}
use Rattle.sheet.proofs.maps.clear.Given as goal

abbrev pub invariant-loop-i : goal.invariant-loop-i
invariant-loop-i l = (l.i ≤ 256) × (length l.room ≡ length l.initial.room) × (l.room ≡ zeros l.i ++ drop l.i l.initial.room)

abbrev pub invariant-loop-i-2 : goal.invariant-loop-i-2
invariant-loop-i-2 l = (256 ≤ l.i) × (l.i ≤ 65536) × (length l.room ≡ length l.initial.room) × (l.room ≡ zeros l.i ++ drop l.i l.initial.room)

abbrev pub decreases-loop-i : goal.decreases-loop-i
decreases-loop-i l = 256 - l.i

abbrev pub decreases-loop-i-2 : goal.decreases-loop-i-2
decreases-loop-i-2 l = 65536 - l.i
