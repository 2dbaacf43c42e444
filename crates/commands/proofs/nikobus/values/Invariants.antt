-- `commands::nikobus::values` meets its contract: after each turn the bytes of two digits more stand in the room.
-- Assumes nothing.
use mathlib.Core.Path.{◌≡◌}
use lib.ListN.{length}
use Rattle.commands.proofs.Laws.NikobusWrites.{Unhexing}
use Rattle.commands.proofs.nikobus.values.Given as goal

abbrev pub invariant-loop-i : goal.invariant-loop-i
invariant-loop-i l = (length l.room ≡ length l.initial.room) × Unhexing l.digits l.room l.i
