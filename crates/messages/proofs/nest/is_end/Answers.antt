-- `messages::nest::is_end` meets its contract: the two tests.
-- Assumes nothing.
use borrow.Author.Tests.{eq-eqb, ne_eqb}
use Rattle.messages.specs.Work.Look.{is_end}
use Rattle.messages.proofs.nest.is_end.Goals as goal

pub returns-then-id-eq47 : goal.returns-then-id-eq47
unfolding is_end
returns-then-id-eq47 c = simp (eq-eqb _ _ c.if-id-eq47.true)

pub returns-else-id-eq47 : goal.returns-else-id-eq47
unfolding is_end
returns-else-id-eq47 c = simp (ne_eqb _ _ c.if-id-eq47.false)
