-- `names::nikobus` meets its contract.
-- Assumes nothing.
use native.Mathlib.Omega.{arith}
use Rattle.shapes.specs.Paper.Members.{names}
use Rattle.shapes.proofs.Laws.Picked.{name-at, unnamed}
use Rattle.shapes.proofs.names.nikobus.Goals as goal

pub returns-in-0 : goal.returns-in-0
unfolding names
returns-in-0 c = name-at 0 c.in-0.is (unnamed (omega arith))

pub returns-in-1 : goal.returns-in-1
unfolding names
returns-in-1 c = name-at 1 c.in-1.is c.nth.ensures

pub returns-in-2 : goal.returns-in-2
unfolding names
returns-in-2 c = name-at 2 c.in-2.is c.nth-in-2.ensures

pub returns-in-3 : goal.returns-in-3
unfolding names
returns-in-3 c = name-at 3 c.in-3.is c.nth-in-3.ensures

pub returns-in-4 : goal.returns-in-4
unfolding names
returns-in-4 c = name-at 4 c.in-4.is c.nth-in-4.ensures

pub returns-in-5 : goal.returns-in-5
unfolding names
returns-in-5 c = name-at 5 c.in-5.is (unnamed (omega arith))

pub returns-in_default : goal.returns-in_default
unfolding names
returns-in_default c = name-at 6 {r = c.args.row} (omega arith) c.nth-in_default.ensures
