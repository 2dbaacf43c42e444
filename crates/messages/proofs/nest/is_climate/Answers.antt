-- `messages::nest::is_climate` meets its contract: the two tests.
-- Assumes nothing.
use borrow.Author.Tests.{eq-eqb, ne_eqb}
use Rattle.messages.specs.Work.Look.{is_climate}
use Rattle.messages.proofs.nest.is_climate.Goals as goal

pub returns-then-id-eq2 : goal.returns-then-id-eq2
unfolding is_climate
returns-then-id-eq2 c = simp (eq-eqb _ _ c.if-id-eq2.true)

pub returns-else-id-eq2 : goal.returns-else-id-eq2
unfolding is_climate
returns-else-id-eq2 c = simp (ne_eqb _ _ c.if-id-eq2.false)
