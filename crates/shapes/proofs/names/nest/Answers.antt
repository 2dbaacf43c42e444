-- `names::nest` meets its contract.
-- Assumes nothing.
use native.Mathlib.Omega.{arith}
use Rattle.shapes.specs.Paper.Members.{names}
use Rattle.shapes.proofs.Laws.Picked.{name-at, unnamed}
use Rattle.shapes.proofs.names.nest.Goals as goal

pub returns-in-7 : goal.returns-in-7
unfolding names
returns-in-7 c = name-at 7 c.in-7.is c.nth.ensures

pub returns-in-8 : goal.returns-in-8
unfolding names
returns-in-8 c = name-at 8 c.in-8.is c.nth-in-8.ensures

pub returns-in-9 : goal.returns-in-9
unfolding names
returns-in-9 c = name-at 9 c.in-9.is c.nth-in-9.ensures

pub returns-in-10 : goal.returns-in-10
unfolding names
returns-in-10 c = name-at 10 c.in-10.is (unnamed (omega arith))

pub returns-in-11 : goal.returns-in-11
unfolding names
returns-in-11 c = name-at 11 c.in-11.is (unnamed (omega arith))

pub returns-in-12 : goal.returns-in-12
unfolding names
returns-in-12 c = name-at 12 c.in-12.is c.nth-in-12.ensures

pub returns-in_default : goal.returns-in_default
unfolding names
returns-in_default c = name-at 13 {r = c.args.row} (omega arith) c.nth-in_default.ensures
