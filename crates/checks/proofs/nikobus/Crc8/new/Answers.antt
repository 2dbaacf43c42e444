-- `checks::nikobus::Crc8::new` meets its contract: the start is 0.
-- Assumes nothing.
use mathlib.Core.Path.{refl}
use Rattle.checks.proofs.nikobus.Crc8.new.Goals as goal

pub returns : goal.returns
returns c = refl
