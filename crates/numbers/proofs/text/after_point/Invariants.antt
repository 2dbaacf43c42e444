-- `numbers::text::after_point` meets its contract: the loop's invariant says that no character passed is a point.
-- Assumes nothing.
use mathlib.Core.Path.{◌≡◌}
use Prim.Native.Nat.{◌≤◌}
use lib.ListN.{length, drop}
use Rattle.numbers.specs.Work.Text.{behind}
use Rattle.numbers.proofs.text.after_point.Given as goal

abbrev pub invariant-loop-i : goal.invariant-loop-i
invariant-loop-i l = (l.i ≤ length l.t) × (behind (drop l.i l.t) ≡ behind l.t)
