-- `numbers::raw::below_zero` meets its contract: the test is of what the machine reads back.
-- Assumes nothing.
use mathlib.Core.Path.{ap, ◌∙◌}
use Rattle.numbers.specs.Paper.Text.{below_zero}
use Rattle.numbers.proofs.Laws.Signs.{back, read_back, below}
use Rattle.numbers.proofs.raw.below_zero.Goals as goal

pub returns : goal.returns
returns c = below (back c.args.z) ∙ ap below_zero (read_back c.args.z c.ranges.z)
