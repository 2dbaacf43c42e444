-- `sorts::nibe` meets its contract.
-- Assumes nothing.
use native.Mathlib.Omega.{arith}
use Rattle.shapes.specs.Paper.Members.{sorts}
use Rattle.shapes.proofs.Laws.Picked.{sort-at}
use Rattle.shapes.proofs.sorts.nibe.Goals as goal

pub returns-in-14 : goal.returns-in-14
unfolding sorts
returns-in-14 c = sort-at 14 c.in-14.is c.nth.ensures

pub returns-in-15 : goal.returns-in-15
unfolding sorts
returns-in-15 c = sort-at 15 c.in-15.is c.nth-in-15.ensures

pub returns-in-16 : goal.returns-in-16
unfolding sorts
returns-in-16 c = sort-at 16 c.in-16.is c.nth-in-16.ensures

pub returns-in-17 : goal.returns-in-17
unfolding sorts
returns-in-17 c = sort-at 17 c.in-17.is c.nth-in-17.ensures

pub returns-in_default : goal.returns-in_default
unfolding sorts
returns-in_default c = sort-at 18 {r = c.args.row} (omega arith) c.nth-in_default.ensures
