-- `members::value_of` meets its contract.
-- Assumes nothing.
use Rattle.jsontext.proofs.Laws.Reading.{no-object-found, no-name-found, value_found}
use Rattle.jsontext.proofs.members.value_of.Goals as goal

pub returns-in_default : goal.returns-in_default
returns-in_default c = no-object-found c.in_default.ensures

pub returns-in_default-named : goal.returns-in_default-named
returns-in_default-named c = no-name-found c.in-Some.ensures c.in_default-named.ensures

pub returns : goal.returns
returns c = value_found c.in-Some.ensures c.in-Some-named.ensures c.value_at.ensures
