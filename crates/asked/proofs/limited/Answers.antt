-- `limited` meets its contract.
-- Assumes nothing.
use mathlib.Core.Path.{sym, ◌∙◌}
use Rattle.asked.specs.Work.Draft.{Limited}
use Rattle.asked.proofs.limited.Goals as goal

pub returns-then-number-eq7 : goal.returns-then-number-eq7
returns-then-number-eq7 c = Limited.no-width (sym c.number.ensures ∙ c.if-number-eq7.true)

pub returns : goal.returns
returns c = Limited.as-it-is (λ e. c.if-number-eq7.false (c.number.ensures ∙ e))
