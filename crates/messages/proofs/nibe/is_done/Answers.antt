-- `messages::nibe::is_done` meets its contract: its tests are the definition's.
-- Assumes nothing.
use borrow.Author.Tests.{eq-eqb, ne_eqb}
use Rattle.messages.specs.Work.Look.{is_done}
use Rattle.messages.proofs.nibe.is_done.Goals as goal

pub returns-then-content-eq1 : goal.returns-then-content-eq1
unfolding is_done
returns-then-content-eq1 c = simp (eq-eqb _ _ c.if-command-eq108.true, eq-eqb _ _ c.if-content-eq1.true)

pub returns-else-content-eq1 : goal.returns-else-content-eq1
unfolding is_done
returns-else-content-eq1 c = simp (eq-eqb _ _ c.if-command-eq108.true, ne_eqb _ _ c.if-content-eq1.false)

pub returns-else-command-eq108 : goal.returns-else-command-eq108
unfolding is_done
returns-else-command-eq108 c = simp (ne_eqb _ _ c.if-command-eq108.false)
