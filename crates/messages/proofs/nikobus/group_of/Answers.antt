-- `messages::nikobus::group_of` meets its contract: the test.
-- Assumes nothing.
use borrow.Author.Tests.{eq-eqb, ne_eqb}
use Rattle.messages.proofs.nikobus.group_of.Goals as goal

pub returns-then-code-first : goal.returns-then-code-first
returns-then-code-first c = simp (eq-eqb _ _ c.if-code-first.true)

pub returns-else-code-first : goal.returns-else-code-first
returns-else-code-first c = simp (ne_eqb _ _ c.if-code-first.false)
