-- `digits::low_first::value` meets its contract: the number of what has been read, from the last byte to the first.
-- Assumes nothing.
use mathlib.Core.Path.{◌≡◌}
use Prim.Native.Nat.{◌^◌, ◌≤◌, ◌<◌}
use lib.ListN.{length, drop}
use Rattle.digits.specs.Paper.LowFirst.{low_value}
use Rattle.digits.proofs.low_first.value.Given as goal

abbrev pub invariant-loop-i : goal.invariant-loop-i
invariant-loop-i l = (l.i ≤ length l.s) × (l.n ≡ low_value (drop l.i l.s)) × (l.n < 2 ^ 32)
