-- `sorts::nest` meets its contract.
-- Assumes nothing.
use native.Mathlib.Omega.{arith}
use mathlib.Core.Path.{refl}
use Rattle.shapes.specs.Paper.Members.{sorts}
use Rattle.shapes.proofs.Laws.Picked.{sort-at}
use Rattle.shapes.proofs.sorts.nest.Goals as goal

pub returns-in-7 : goal.returns-in-7
unfolding sorts
returns-in-7 c = sort-at 7 c.in-7.is c.nth.ensures

pub returns-in-8 : goal.returns-in-8
unfolding sorts
returns-in-8 c = sort-at 8 c.in-8.is c.nth-in-8.ensures

pub returns-in-9 : goal.returns-in-9
unfolding sorts
returns-in-9 c = sort-at 9 c.in-9.is c.nth-in-9.ensures

pub returns-in-10 : goal.returns-in-10
unfolding sorts
returns-in-10 c = sort-at 10 c.in-10.is (record { is = refl })

pub returns-in-11 : goal.returns-in-11
unfolding sorts
returns-in-11 c = sort-at 11 c.in-11.is (record { is = refl })

pub returns-in-12 : goal.returns-in-12
unfolding sorts
returns-in-12 c = sort-at 12 c.in-12.is c.nth-in-12.ensures

pub returns-in_default : goal.returns-in_default
unfolding sorts
returns-in_default c = sort-at 13 {r = c.args.row} (omega arith) c.nth-in_default.ensures
