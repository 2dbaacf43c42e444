-- `units::short_value` meets its contract.
-- Assumes nothing.
use Rattle.std.proofs.Common.{arith}
use Rattle.std.proofs.lemmas.Bool.Decides.{nat_tests}
use Rattle.jsontext.specs.Work.Units.{short_value}
use Rattle.jsontext.proofs.units.short_value.Goals as goal

pub returns-in-98 : goal.returns-in-98
unfolding short_value
returns-in-98 c = rw c.in-98.is

pub returns-in-102 : goal.returns-in-102
unfolding short_value
returns-in-102 c = rw c.in-102.is

pub returns-in-110 : goal.returns-in-110
unfolding short_value
returns-in-110 c = rw c.in-110.is

pub returns-in-114 : goal.returns-in-114
unfolding short_value
returns-in-114 c = rw c.in-114.is

pub returns-in-116 : goal.returns-in-116
unfolding short_value
returns-in-116 c = rw c.in-116.is

pub returns-in_default : goal.returns-in_default
unfolding short_value
returns-in_default c = grind (arith, nat_tests)
