-- `messages::nibe::is_valued` meets its contract: its tests are the definition's.
-- Assumes nothing.
use borrow.Author.Tests.{eq-eqb, ne_eqb}
use Rattle.messages.specs.Work.Look.{is_valued}
use Rattle.messages.proofs.nibe.is_valued.Goals as goal

pub returns-then-n-eq3 : goal.returns-then-n-eq3
unfolding is_valued
returns-then-n-eq3 c = simp (eq-eqb _ _ c.if-command-want.true, eq-eqb _ _ c.if-n-eq3.true)

pub returns-then-n-eq4 : goal.returns-then-n-eq4
unfolding is_valued
returns-then-n-eq4 c = simp (eq-eqb _ _ c.if-command-want.true, ne_eqb _ _ c.if-n-eq3.false, eq-eqb _ _ c.if-n-eq4.true)

pub returns-else-n-eq4 : goal.returns-else-n-eq4
unfolding is_valued
returns-else-n-eq4 c = simp (eq-eqb _ _ c.if-command-want.true, ne_eqb _ _ c.if-n-eq3.false, ne_eqb _ _ c.if-n-eq4.false)

pub returns-else-command-want : goal.returns-else-command-want
unfolding is_valued
returns-else-command-want c = simp (ne_eqb _ _ c.if-command-want.false)
