-- `units::four_of` meets its contract.
-- Assumes nothing.
use Rattle.jsontext.specs.Work.Units.{four_of}
use native.Mathlib.Omega.{arith}
use Rattle.jsontext.proofs.units.four_of.Goals as goal

pub returns : goal.returns
unfolding four_of
returns c = ((cc), omega arith)
