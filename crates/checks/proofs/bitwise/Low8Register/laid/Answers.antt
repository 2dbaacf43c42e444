-- `checks::bitwise::Low8Register::laid` meets its contract: a byte is added to all of the register.
-- Assumes nothing.
use Rattle.checks.specs.Paper.Bits.{low_bit_first}
use Rattle.checks.proofs.Laws.Numbers.{bits-xor}
use Rattle.checks.proofs.bitwise.Low8Register.laid.Goals as goal

pub returns-clause-mixed : goal.returns-clause-mixed
returns-clause-mixed c = bits-xor low_bit_first 8 c.args.self.0 c.args.b
