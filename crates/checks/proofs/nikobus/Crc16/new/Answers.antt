-- `checks::nikobus::Crc16::new` meets its contract: the start is 0xFFFF.
-- Assumes nothing.
use mathlib.Core.Path.{refl}
use Rattle.checks.proofs.nikobus.Crc16.new.Goals as goal

pub returns : goal.returns
returns c = refl
