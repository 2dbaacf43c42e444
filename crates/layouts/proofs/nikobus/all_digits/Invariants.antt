-- `layouts::nikobus::all_digits` meets its contract: what is left to test tells what the whole does.
-- Assumes nothing.
use mathlib.Core.Path.{◌≡◌}
use Prim.Native.Nat.{◌≤◌, ◌-◌}
use lib.ListN.{length, drop}
use Rattle.layouts.specs.Paper.Chars.{all, is_hex}
use Rattle.layouts.proofs.nikobus.all_digits.Given as goal

abbrev pub invariant-loop-i : goal.invariant-loop-i
invariant-loop-i l = (l.i ≤ length l.s) × (all is_hex (drop l.i l.s) ≡ all is_hex l.s)

abbrev pub decreases-loop-i : goal.decreases-loop-i
decreases-loop-i l = length l.s - l.i
