-- `strings::unwritten` meets its contract.
-- Assumes nothing.
use mathlib.Core.Path.{sym, ◌∙◌}
use borrow.Author.Tests.{eq-eqb, ne_eqb}
use Rattle.asked.proofs.strings.unwritten.Goals as goal

pub returns-then-number-eq4 : goal.returns-then-number-eq4
returns-then-number-eq4 c = simp (eq-eqb _ _ (sym c.number.ensures ∙ c.if-number-eq4.true))

pub returns-else-number-eq4 : goal.returns-else-number-eq4
returns-else-number-eq4 c = simp (ne_eqb _ _ (λ e. c.if-number-eq4.false (c.number.ensures ∙ e)))
