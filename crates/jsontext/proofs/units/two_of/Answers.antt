-- `units::two_of` meets its contract.
-- Assumes nothing.
use Rattle.jsontext.specs.Work.Units.{two_of}
use Rattle.jsontext.proofs.units.two_of.Goals as goal

pub returns : goal.returns
unfolding two_of
returns c = cc
