-- `members::counted` meets its contract.
-- Assumes nothing.
use Rattle.jsontext.proofs.Laws.Once.{span}
use Rattle.jsontext.proofs.Laws.Reading.{Counting}
use Rattle.jsontext.proofs.members.counted.Given as goal

abbrev pub invariant-loop-at : goal.invariant-loop-at
invariant-loop-at l = Counting l.text l.inside l.at l.n

abbrev pub decreases-loop-at : goal.decreases-loop-at
decreases-loop-at l = span l.text l.at
