-- `checks::nibe::Xor::new` meets its contract: the start is 0.
-- Assumes nothing.
use mathlib.Core.Path.{refl}
use Rattle.checks.proofs.nibe.Xor.new.Goals as goal

pub returns : goal.returns
returns c = refl
