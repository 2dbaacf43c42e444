-- `messages::nest::is_break` meets its contract: the test of the id, and then of the three characters.
-- Assumes nothing.
use borrow.Author.Tests.{eq-eqb, ne_eqb}
use Rattle.digits.specs.Paper.Ascii.{ascii}
use Rattle.messages.specs.Work.Look.{is_break}
use Rattle.messages.proofs.Laws.Responses.{word_test}
use Rattle.messages.proofs.nest.is_break.Goals as goal

pub returns-then-id-eq1 : goal.returns-then-id-eq1
unfolding is_break
returns-then-id-eq1 c = simp (eq-eqb _ _ c.if-id-eq1.true) (word_test (ascii "BRK") _ c.same.ensures)

pub returns-else-id-eq1 : goal.returns-else-id-eq1
unfolding is_break
returns-else-id-eq1 c = simp (ne_eqb _ _ c.if-id-eq1.false)
