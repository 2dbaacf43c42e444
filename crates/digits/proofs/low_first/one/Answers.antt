-- `digits::low_first::one` meets its contract: a byte is itself.
-- Assumes nothing.
use mathlib.Core.Path.{◌≡◌}
use Prim.Native.Nat.{◌%◌}
use native.Mathlib.Omega.{arith}
use Rattle.digits.specs.Paper.LowFirst.{low_byte_first}
use Rattle.digits.proofs.low_first.one.Goals as goal

pub returns : goal.returns
unfolding low_byte_first
returns c = let h : c.args.n % 256 ≡ c.args.n = omega arith in rw h
