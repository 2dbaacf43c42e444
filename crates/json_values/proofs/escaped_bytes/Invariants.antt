-- `json_values::escaped_bytes` meets its contract. The loop's invariant: the bytes passed are put.
-- Assumes nothing.
use mathlib.Core.Path.{◌≡◌}
use lib.ListN.{length, take}
use Rattle.puts.specs.Paper.Put.{Put}
use Rattle.json_values.specs.Paper.Json.{each_escaped}
use Rattle.json_values.proofs.escaped_bytes.Given as goal

abbrev pub invariant-loop-b : goal.invariant-loop-b
invariant-loop-b l = (length l.room ≡ length l.initial.room) × Put l.initial.room l.room l.at l.next (each_escaped (take l.b-index l.s))
