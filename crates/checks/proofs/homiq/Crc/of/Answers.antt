-- `checks::homiq::Crc::of` meets its contract: the bytes are fed from the start.
-- Assumes nothing.
use Rattle.checks.proofs.homiq.Crc.of.Goals as goal

pub returns : goal.returns
returns c = cc
