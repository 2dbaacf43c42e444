-- `puts::copy` meets its contract. The loop's invariant: what is left, stored from here on, makes the whole.
-- Assumes nothing.
use mathlib.Core.Path.{◌≡◌}
use Prim.Native.Nat.{◌+◌, ◌≤◌}
use lib.ListN.{length, drop}
use lib.Seq.{sets}
use Rattle.puts.proofs.copy.Given as goal

abbrev pub invariant-loop-i : goal.invariant-loop-i
invariant-loop-i l = (l.i ≤ length l.s) × (length l.room ≡ length l.initial.room) × (sets l.room (l.at + l.i) (drop l.i l.s) ≡ sets l.initial.room l.at l.s)
