-- `checks::homiq::Crc::new` meets its contract: the start is 0.
-- Assumes nothing.
use mathlib.Core.Path.{refl}
use Rattle.checks.proofs.homiq.Crc.new.Goals as goal

pub returns : goal.returns
returns c = refl
