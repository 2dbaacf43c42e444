-- `numbers::raw::in_range` meets its contract: it is `between` at the paper's ends.
-- Assumes nothing.
use mathlib.Core.Path.{subst}
use lib.IntN.{ℤ}
use Rattle.digits.specs.Paper.Read.{Decides}
use Rattle.numbers.specs.Paper.Raw.{Raw}
use Rattle.numbers.proofs.Laws.Signs.{read_back}
use Rattle.numbers.proofs.raw.in_range.Goals as goal

pub returns : goal.returns
returns c = subst (λ (y : ℤ). Decides (Raw y) c.between.result) (read_back c.args.z c.ranges.z) c.between.ensures
