-- `frames::seek::index_if` meets its contract: by its test.
-- Assumes nothing.
use mathlib.Core.Bool.{true≢false}
use mathlib.Core.Path.{refl, sym, ◌∙◌}
use Rattle.frames.proofs.seek.index_if.Goals as goal

pub returns-then-may : goal.returns-then-may
returns-then-may c = (λ e. refl, λ e. absurd (true≢false (sym c.if-may.true ∙ e)))

pub returns : goal.returns
returns c = (λ e. absurd (true≢false (sym e ∙ c.if-may.false)), λ e. refl)
