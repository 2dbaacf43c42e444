-- `checks::nikobus::Crc16::byte` meets its contract: `feed` does not look at a check's start.
-- Assumes nothing.
use Rattle.checks.specs.Paper.Check.{poly_bits, feed}
use Rattle.checks.proofs.nikobus.Crc16.byte.Goals as goal

pub returns : goal.returns
unfolding feed poly_bits
returns c = c.byte.ensures
