-- `strings::are_digits` meets its contract. The loop's invariant: all characters passed are digits.
-- Assumes nothing.
use Prim.Native.Nat.{◌≤◌}
use lib.ListN.{length}
use Rattle.layouts.specs.Paper.Chars.{is_hex}
use Rattle.asked.proofs.Laws.Strings.{Passed}
use Rattle.asked.proofs.strings.are_digits.Given as goal

abbrev pub invariant-loop-c : goal.invariant-loop-c
invariant-loop-c l = (l.c-index ≤ length l.s) × Passed is_hex l.s l.c-index
