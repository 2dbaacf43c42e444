-- `members::opened` meets its contract.
-- Assumes nothing.
use Rattle.jsontext.proofs.Laws.Reading.{over-long, no_text, no-bracket, no-members, more-behind, opens}
use Rattle.jsontext.proofs.Laws.Once.{rest_of}
use Rattle.jsontext.proofs.Laws.Places.{found}
use Rattle.jsontext.proofs.members.opened.Goals as goal

pub returns-then-text-gt-MOST_BYTES : goal.returns-then-text-gt-MOST_BYTES
returns-then-text-gt-MOST_BYTES c = over-long c.if-text-gt-MOST_BYTES.true

pub returns-then-text-at : goal.returns-then-text-at
returns-then-text-at c = no_text c.blanks-at.ensures c.if-text-at.true

pub returns-then-text-at-ne123 : goal.returns-then-text-at-ne123
returns-then-text-at-ne123 c = no-bracket c.blanks-at.ensures c.if-text-at.false c.if-text-at-ne123.true

pub returns-in_err-end : goal.returns-in_err-end
returns-in_err-end c = rw c.from_residual.ensures (no-members c.blanks-at.ensures c.if-text-at.false c.if-text-at-ne123.false (rest_of c.in_err-end.ensures))

pub returns-then-blanks-text : goal.returns-then-blanks-text
returns-then-blanks-text c = more-behind c.blanks-at.ensures c.if-text-at.false c.if-text-at-ne123.false (found (rest_of c.in_ok-end.ensures)) c.blanks.ensures c.if-blanks-text.true

pub returns : goal.returns
returns c = opens c.blanks-at.ensures c.if-text-at.false c.if-text-at-ne123.false (found (rest_of c.in_ok-end.ensures)) c.blanks.ensures c.if-text-gt-MOST_BYTES.false c.if-blanks-text.false
