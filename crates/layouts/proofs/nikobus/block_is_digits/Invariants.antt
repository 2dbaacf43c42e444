-- `layouts::nikobus::block_is_digits` meets its contract: what was found so far, and what is left to test, tell what the whole does.
-- Assumes nothing.
use mathlib.Core.Bool.{◌&&◌}
use mathlib.Core.Path.{◌≡◌}
use Prim.Native.Nat.{◌≤◌}
use lib.ListN.{length, drop}
use Rattle.layouts.specs.Paper.Chars.{all, is_hex}
use Rattle.layouts.proofs.nikobus.block_is_digits.Given as goal

abbrev pub invariant-loop-c : goal.invariant-loop-c
invariant-loop-c l = (l.c-index ≤ length l.block) × (l.so_far && all is_hex (drop l.c-index l.block) ≡ all is_hex l.block)
