-- `units::three_of` meets its contract.
-- Assumes nothing.
use Rattle.jsontext.specs.Work.Units.{three_of}
use Rattle.jsontext.proofs.units.three_of.Goals as goal

pub returns : goal.returns
unfolding three_of
returns c = cc
