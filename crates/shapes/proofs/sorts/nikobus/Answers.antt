-- `sorts::nikobus` meets its contract.
-- Assumes nothing.
use native.Mathlib.Omega.{arith}
use mathlib.Core.Path.{refl}
use Rattle.shapes.specs.Paper.Members.{sorts}
use Rattle.shapes.proofs.Laws.Picked.{sort-at}
use Rattle.shapes.proofs.sorts.nikobus.Goals as goal

pub returns-in-0 : goal.returns-in-0
unfolding sorts
returns-in-0 c = sort-at 0 c.in-0.is (record { is = refl })

pub returns-in-1 : goal.returns-in-1
unfolding sorts
returns-in-1 c = sort-at 1 c.in-1.is c.nth.ensures

pub returns-in-2 : goal.returns-in-2
unfolding sorts
returns-in-2 c = sort-at 2 c.in-2.is c.nth-in-2.ensures

pub returns-in-3 : goal.returns-in-3
unfolding sorts
returns-in-3 c = sort-at 3 c.in-3.is c.nth-in-3.ensures

pub returns-in-4 : goal.returns-in-4
unfolding sorts
returns-in-4 c = sort-at 4 c.in-4.is c.nth-in-4.ensures

pub returns-in-5 : goal.returns-in-5
unfolding sorts
returns-in-5 c = sort-at 5 c.in-5.is (record { is = refl })

pub returns-in_default : goal.returns-in_default
unfolding sorts
returns-in_default c = sort-at 6 {r = c.args.row} (omega arith) c.nth-in_default.ensures
