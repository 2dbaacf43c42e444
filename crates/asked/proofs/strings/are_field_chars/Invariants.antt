-- `strings::are_field_chars` meets its contract. The loop's invariant: all characters passed may stand in a field.
-- Assumes nothing.
use Prim.Native.Nat.{◌≤◌}
use lib.ListN.{length}
use Rattle.layouts.specs.Paper.Homiq.{field_char}
use Rattle.asked.proofs.Laws.Strings.{Passed}
use Rattle.asked.proofs.strings.are_field_chars.Given as goal

abbrev pub invariant-loop-c : goal.invariant-loop-c
invariant-loop-c l = (l.c-index ≤ length l.s) × Passed field_char l.s l.c-index
