-- `checks::bitwise::High16Register::laid` meets its contract: a byte is added to the high half of the register.
-- Assumes nothing.
use mathlib.Core.Path.{ap, ◌∙◌}
use native.Mathlib.Omega.{arith}
use lib.Bits.{xor_zero_r}
use Rattle.checks.specs.Paper.Bits.{high_bit_first, bits}
use Rattle.checks.proofs.Laws.Numbers.{bits-laid}
use Rattle.checks.proofs.bitwise.High16Register.laid.Goals as goal

pub returns-clause-mixed : goal.returns-clause-mixed
returns-clause-mixed c =
    ap (bits high_bit_first 16) (grind (arith, xor_zero_r)) ∙ bits-laid high_bit_first 8 8 c.args.self.0 c.args.b (omega arith)
