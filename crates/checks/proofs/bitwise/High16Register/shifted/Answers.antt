-- `checks::bitwise::High16Register::shifted` meets its contract, by the laws of a shift at 15 + 1 bits.
-- Assumes nothing.
use native.Mathlib.Omega.{arith}
use Prim.Native.Nat.{◌-◌}
use Rattle.checks.specs.Paper.Bits.{high_bit_first, bits}
use Rattle.checks.proofs.Laws.Numbers.{shift-clear, shift-set}
use Rattle.checks.proofs.bitwise.High16Register.shifted.Goals as goal

pub returns-then-self-lt32768-clause-moved : goal.returns-then-self-lt32768-clause-moved
returns-then-self-lt32768-clause-moved c =
    shift-clear high_bit_first 15 c.args.self.0 c.args.self.0 (bits high_bit_first 16 c.args.poly.0) (omega arith) (omega arith)

pub returns-else-self-lt32768-clause-moved : goal.returns-else-self-lt32768-clause-moved
returns-else-self-lt32768-clause-moved c =
    shift-set high_bit_first 15 c.args.self.0 (c.args.self.0 - 0x8000) c.args.poly.0 (omega arith) (omega arith)
