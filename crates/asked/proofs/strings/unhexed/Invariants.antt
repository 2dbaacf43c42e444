-- `strings::unhexed` meets its contract. The loop's invariant: the bytes of the digits passed are in the room, as far as it goes.
-- Assumes nothing.
use Prim.Native.Nat.{◌≤◌}
use mathlib.Core.Path.{◌≡◌}
use lib.ListN.{length}
use Rattle.asked.proofs.Laws.Strings.{Unhexing}
use Rattle.asked.proofs.strings.unhexed.Given as goal

abbrev pub invariant-loop-i : goal.invariant-loop-i
invariant-loop-i l = (l.i ≤ l.n) × (length l.room ≡ length l.initial.room) × Unhexing l.digits l.initial.room l.room l.i
