-- `members::value_at` meets its contract.
-- Assumes nothing.
use Rattle.jsontext.proofs.Laws.Reading.{no_name, no-colon, no-value-there, value_there}
use Rattle.jsontext.proofs.members.value_at.Goals as goal

pub returns-in_default : goal.returns-in_default
returns-in_default c = no_name c.in_default.ensures

pub returns-then-text-colon : goal.returns-then-text-colon
returns-then-text-colon c = no-colon c.in-Some.ensures c.blanks-colon.ensures c.if-text-colon.true

pub returns-in_default-value : goal.returns-in_default-value
returns-in_default-value c = no-value-there c.in-Some.ensures c.blanks-colon.ensures c.if-text-colon.false c.blanks-from.ensures c.in_default-value.ensures

pub returns : goal.returns
returns c = value_there c.in-Some.ensures c.blanks-colon.ensures c.if-text-colon.false c.blanks-from.ensures c.in-Some-value.ensures
