-- `checks::bitwise::Low8Register::shifted` meets its contract, by the laws of a shift at 7 + 1 bits.
-- Assumes nothing.
use native.Mathlib.Omega.{arith}
use Prim.Native.Nat.{◌/◌}
use Rattle.checks.specs.Paper.Bits.{low_bit_first, bits}
use Rattle.checks.proofs.Laws.Numbers.{shift-clear, shift-set}
use Rattle.checks.proofs.bitwise.Low8Register.shifted.Goals as goal

pub returns-then-self-eq0-clause-moved : goal.returns-then-self-eq0-clause-moved
returns-then-self-eq0-clause-moved c =
    shift-clear low_bit_first 7 c.args.self.0 (c.args.self.0 / 2) (bits low_bit_first 8 c.args.poly.0) (omega arith) (omega arith)

pub returns-else-self-eq0-clause-moved : goal.returns-else-self-eq0-clause-moved
returns-else-self-eq0-clause-moved c =
    shift-set low_bit_first 7 c.args.self.0 (c.args.self.0 / 2) c.args.poly.0 (omega arith) (omega arith)
