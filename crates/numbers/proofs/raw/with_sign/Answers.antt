-- `numbers::raw::with_sign` meets its contract: each step by which the machine negates.
-- Assumes nothing.
use mathlib.Core.Path.{sym, ap, ◌∙◌}
use mathlib.Core.Bool.{Bool}
use Rattle.numbers.specs.Work.Text.{signed}
use Rattle.numbers.proofs.Laws.Signs.{plus, negated}
use Rattle.numbers.proofs.raw.with_sign.Goals as goal

pub overflow_sub-result : goal.overflow_sub-result
overflow_sub-result c = (negated c.args.n c.requires).0

pub returns-then-minus : goal.returns-then-minus
returns-then-minus c = (negated c.args.n c.requires).1 ∙ ap (λ (b : Bool). signed b c.args.n) (sym c.if-minus.true)

pub returns : goal.returns
returns c = plus c.args.n c.requires ∙ ap (λ (b : Bool). signed b c.args.n) (sym c.if-minus.false)
