-- `members::count` meets its contract.
-- Assumes nothing.
use Rattle.jsontext.proofs.Laws.Reading.{no-count, counts}
use Rattle.jsontext.proofs.members.count.Goals as goal

pub returns-in_default : goal.returns-in_default
returns-in_default c = no-count c.in_default.ensures

pub returns : goal.returns
returns c = counts c.in-Some.ensures c.counted.ensures
