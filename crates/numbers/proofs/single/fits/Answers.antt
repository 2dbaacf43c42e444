-- `numbers::single::fits` meets its contract: the range is the one cause of a refusal, and it is tested.
-- Assumes nothing.
use mathlib.Core.Path.{ap, ◌∙◌}
use lib.Dec.{lit<}
use Rattle.digits.specs.Paper.Refusals.{answers, refuses}
use Rattle.numbers.specs.Paper.Single.{fits_single}
use Rattle.numbers.proofs.Laws.Signs.{read_back}
use Rattle.numbers.proofs.Laws.Causes.{in-range, out_of_range}
use Rattle.numbers.proofs.Laws.Range.{refused, passed, passed-back}
use Rattle.numbers.proofs.single.fits.Goals as goal

pub returns-then-not-in_range : goal.returns-then-not-in_range
returns-then-not-in_range c =
    refuses (lit< tt) (out_of_range c.args.raw (refused c.ranges.raw c.in_range.ensures c.if-not-in_range.true))

pub in_range_fits-requires : goal.in_range_fits-requires
in_range_fits-requires c = passed-back c.ranges.raw c.in_range.ensures c.if-not-in_range.false

pub returns : goal.returns
returns c =
    answers (in-range c.args.raw (passed c.ranges.raw c.in_range.ensures c.if-not-in_range.false))
    (c.in_range_fits.ensures ∙ ap fits_single (read_back c.args.raw c.ranges.raw))
