-- `digits::decimal::digits` meets its contract: the digits that are done stand at the end, and those of the rest have their places before them.
-- Assumes nothing.
use Rattle.digits.proofs.Laws.Decimal.{Left}
use Rattle.digits.proofs.decimal.digits.Given as goal

abbrev pub invariant-loop-rest : goal.invariant-loop-rest
invariant-loop-rest l = Left 20 l.n l.chars l.from l.rest

abbrev pub decreases-loop-rest : goal.decreases-loop-rest
decreases-loop-rest l = l.rest
