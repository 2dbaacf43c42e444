-- `layouts::homiq::characters` meets its contract: what is left from the index on completes the run.
-- Assumes nothing.
use mathlib.Core.Path.{◌≡◌}
use Prim.Native.Nat.{◌≤◌, ◌+◌}
use lib.ListN.{length, drop}
use Rattle.layouts.specs.Paper.Homiq.{field_char}
use Rattle.layouts.specs.Work.Heads.{leading}
use Rattle.layouts.proofs.homiq.characters.Given as goal

abbrev pub invariant-loop-i : goal.invariant-loop-i
invariant-loop-i l = (l.i ≤ length l.s) × (l.i + leading field_char (drop l.i l.s) ≡ leading field_char l.s)
