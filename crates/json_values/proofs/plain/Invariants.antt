-- `json_values::plain` meets its contract: the bytes passed are spelt as themselves.
-- Assumes nothing.
use mathlib.Core.Path.{◌≡◌}
use lib.ListN.{take}
use Rattle.json_values.specs.Paper.Json.{each_escaped}
use Rattle.json_values.proofs.plain.Given as goal

abbrev pub invariant-loop-i : goal.invariant-loop-i
invariant-loop-i l = each_escaped (take l.i l.s) ≡ take l.i l.s
