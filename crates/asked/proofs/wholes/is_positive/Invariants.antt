-- `wholes::is_positive` meets its contract. The loop's invariant: each character passed is a digit.
-- Assumes nothing.
use Prim.Native.Nat.{ℕ, ◌≤◌, ◌<◌}
use lib.ListN.{length, get_or}
use Rattle.asked.proofs.wholes.is_positive.Given as goal

abbrev pub invariant-loop-c : goal.invariant-loop-c
invariant-loop-c l = (l.c-index ≤ length l.d) × ((k : ℕ) → k < l.c-index → (48 ≤ get_or l.d k 0) × (get_or l.d k 0 ≤ 57))
