-- `messages::nibe::is_ask` meets its contract: its tests are the definition's.
-- Assumes nothing.
use borrow.Author.Tests.{eq-eqb, ne_eqb}
use Rattle.messages.specs.Work.Look.{is_ask}
use Rattle.messages.proofs.nibe.is_ask.Goals as goal

pub returns-then-command-eq105 : goal.returns-then-command-eq105
unfolding is_ask
returns-then-command-eq105 c = simp (eq-eqb _ _ c.if-command-eq105.true)

pub returns-else-command-eq105 : goal.returns-else-command-eq105
unfolding is_ask
returns-else-command-eq105 c = simp (ne_eqb _ _ c.if-command-eq105.false)
