-- `checks::bitwise::High8Register::laid` meets its contract: a byte is added to all of the register.
-- Assumes nothing.
use mathlib.Core.Path.{ap, ◌∙◌}
use native.Mathlib.Omega.{arith}
use lib.Bits.{xor_zero_r}
use Rattle.checks.specs.Paper.Bits.{high_bit_first, bits}
use Rattle.checks.proofs.Laws.Numbers.{bits-xor}
use Rattle.checks.proofs.bitwise.High8Register.laid.Goals as goal

pub returns-clause-mixed : goal.returns-clause-mixed
returns-clause-mixed c =
    ap (bits high_bit_first 8) (grind (arith, xor_zero_r)) ∙ bits-xor high_bit_first 8 c.args.self.0 c.args.b
