-- `checks::nibe::over` meets its contract: what is left of the bytes leads from the loop's state to where the whole leads.
-- Assumes nothing.
use Rattle.checks.specs.Paper.Buses.{nibe_xor}
use Rattle.checks.proofs.Laws.Feed.{Left}
use Rattle.checks.proofs.nibe.over.Given as goal

abbrev pub invariant-loop-b : goal.invariant-loop-b
invariant-loop-b l = Left nibe_xor l.v l.s l.r l.b-index
