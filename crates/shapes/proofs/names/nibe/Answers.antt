-- `names::nibe` meets its contract.
-- Assumes nothing.
use native.Mathlib.Omega.{arith}
use Rattle.shapes.specs.Paper.Members.{names}
use Rattle.shapes.proofs.Laws.Picked.{name-at}
use Rattle.shapes.proofs.names.nibe.Goals as goal

pub returns-in-14 : goal.returns-in-14
unfolding names
returns-in-14 c = name-at 14 c.in-14.is c.nth.ensures

pub returns-in-15 : goal.returns-in-15
unfolding names
returns-in-15 c = name-at 15 c.in-15.is c.nth-in-15.ensures

pub returns-in-16 : goal.returns-in-16
unfolding names
returns-in-16 c = name-at 16 c.in-16.is c.nth-in-16.ensures

pub returns-in-17 : goal.returns-in-17
unfolding names
returns-in-17 c = name-at 17 c.in-17.is c.nth-in-17.ensures

pub returns-in_default : goal.returns-in_default
unfolding names
returns-in_default c = name-at 18 {r = c.args.row} (omega arith) c.nth-in_default.ensures
