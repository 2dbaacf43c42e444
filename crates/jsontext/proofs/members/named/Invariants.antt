-- `members::named` meets its contract.
-- Assumes nothing.
use Rattle.jsontext.proofs.Laws.Once.{span}
use Rattle.jsontext.proofs.Laws.Reading.{Seeking}
use Rattle.jsontext.proofs.members.named.Given as goal

abbrev pub invariant-loop-at : goal.invariant-loop-at
invariant-loop-at l = Seeking l.name l.text l.inside l.at

abbrev pub decreases-loop-at : goal.decreases-loop-at
decreases-loop-at l = span l.text l.at
