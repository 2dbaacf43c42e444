-- `puts::hex_clipped` meets its contract. The loop's invariant: the bytes passed are put.
-- Assumes nothing.
use mathlib.Core.Path.{◌≡◌}
use Prim.Native.Nat.{◌≤◌}
use lib.ListN.{length, take}
use Rattle.digits.specs.Paper.Hex.{hex_bytes}
use Rattle.puts.specs.Paper.Put.{Put}
use Rattle.puts.proofs.hex_clipped.Given as goal

abbrev pub invariant-loop-b : goal.invariant-loop-b
invariant-loop-b l = (l.b-index ≤ length l.s) × (length l.room ≡ length l.initial.room) × Put l.initial.room l.room l.at l.next (hex_bytes (take l.b-index l.s))
