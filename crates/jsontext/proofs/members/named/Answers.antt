-- `members::named` meets its contract.
-- Assumes nothing.
use Rattle.jsontext.proofs.Laws.Once.{later-less, told-true, told-false}
use Rattle.jsontext.proofs.Laws.Reading.{seeking, seek-on, is-named, none_named}
use Rattle.jsontext.proofs.members.named.Goals as goal

pub loop-at-init : goal.loop-at-init
loop-at-init c = seeking c.first-at.ensures

pub returns-then-is_name : goal.returns-then-is_name
returns-then-is_name c = is-named c.loop-at.invariant c.in-Some.is (told-true c.is_name.ensures c.if-is_name.true)

pub loop-at-smaller : goal.loop-at-smaller
loop-at-smaller c = rw c.in-Some.is (later-less c.later-at.ensures)

pub loop-at-preserved : goal.loop-at-preserved
loop-at-preserved c = seek-on c.loop-at.invariant c.in-Some.is (told-false c.is_name.ensures c.if-is_name.false) c.later-at.ensures

pub returns : goal.returns
returns c = none_named c.loop-at.invariant c.in_default.is
