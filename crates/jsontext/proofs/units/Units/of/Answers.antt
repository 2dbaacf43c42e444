-- `units::Units::of` meets its contract.
-- Assumes nothing.
use mathlib.Core.Path.{ap}
use Rattle.jsontext.specs.Work.Units.{units, name_in}
use Rattle.jsontext.proofs.units.Units.of.Goals as goal

pub returns : goal.returns
unfolding name_in
returns c = ap units c.behind.ensures
