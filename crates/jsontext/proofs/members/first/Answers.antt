-- `members::first` meets its contract.
-- Assumes nothing.
use Rattle.jsontext.proofs.Laws.Reading.{first-cut, first-none, first-at}
use Rattle.jsontext.proofs.members.first.Goals as goal

pub returns-then-text-at : goal.returns-then-text-at
returns-then-text-at c = first-cut c.blanks-at.ensures c.if-text-at.true

pub returns-then-text-at-eq125 : goal.returns-then-text-at-eq125
returns-then-text-at-eq125 c = first-none c.blanks-at.ensures c.if-text-at.false c.if-text-at-eq125.true

pub returns : goal.returns
returns c = first-at c.blanks-at.ensures c.if-text-at.false c.if-text-at-eq125.false
