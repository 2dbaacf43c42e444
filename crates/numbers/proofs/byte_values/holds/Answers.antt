-- `numbers::byte_values::holds` meets its contract: the ends are the definition's.
-- Assumes nothing.
use Rattle.numbers.proofs.Laws.Values.{ends-fit, between_ends}
use Rattle.numbers.proofs.byte_values.holds.Goals as goal

pub returns : goal.returns
returns c =
    between_ends c.args.raw c.smallest.ensures c.largest.ensures (ends-fit c.requires c.args.signed) c.ranges.raw c.between.ensures
