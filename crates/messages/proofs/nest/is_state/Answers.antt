-- `messages::nest::is_state` meets its contract: the two tests.
-- Assumes nothing.
use borrow.Author.Tests.{eq-eqb, ne_eqb}
use Rattle.messages.specs.Work.Look.{is_state}
use Rattle.messages.proofs.nest.is_state.Goals as goal

pub returns-then-id-eq11 : goal.returns-then-id-eq11
unfolding is_state
returns-then-id-eq11 c = simp (eq-eqb _ _ c.if-id-eq11.true)

pub returns-else-id-eq11 : goal.returns-else-id-eq11
unfolding is_state
returns-else-id-eq11 c = simp (ne_eqb _ _ c.if-id-eq11.false)
