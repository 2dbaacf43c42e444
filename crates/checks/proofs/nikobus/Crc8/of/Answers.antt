-- `checks::nikobus::Crc8::of` meets its contract: the bytes are fed from the start.
-- Assumes nothing.
use Rattle.checks.proofs.nikobus.Crc8.of.Goals as goal

pub returns : goal.returns
returns c = cc
