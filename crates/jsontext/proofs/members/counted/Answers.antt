-- `members::counted` meets its contract.
-- Assumes nothing.
use native.Mathlib.Omega.{arith}
use Rattle.jsontext.proofs.Laws.Once.{later-less}
use Rattle.jsontext.proofs.Laws.Reading.{counting, few, count-on, all-counted}
use Rattle.jsontext.proofs.members.counted.Goals as goal

pub loop-at-init : goal.loop-at-init
loop-at-init c = counting c.first-at.ensures

pub overflow_add-n : goal.overflow_add-n
overflow_add-n c = omega (arith, few c.loop-at.invariant c.in-Some.is)

pub loop-at-smaller : goal.loop-at-smaller
loop-at-smaller c = rw c.in-Some.is (later-less c.later-at.ensures)

pub loop-at-preserved : goal.loop-at-preserved
loop-at-preserved c = count-on c.loop-at.invariant c.in-Some.is c.later-at.ensures

pub returns : goal.returns
returns c = all-counted c.loop-at.invariant c.in_default.is
