-- `wholes::within` meets its contract, test by test.
-- Assumes nothing.
use Rattle.numbers.proofs.Laws.Signs.{less, not-less, too-low, too-high, within, read_back}
use Rattle.asked.proofs.Laws.Numbers.{out_of, in-range}
use Rattle.asked.proofs.wholes.within.Goals as goal

pub returns-then-raw-least : goal.returns-then-raw-least
returns-then-raw-least c =
    out_of (too-low (less c.args.raw c.args.least c.ranges.raw c.ranges.least c.if-raw-least.true))

pub returns-then-most-raw : goal.returns-then-most-raw
returns-then-most-raw c =
    out_of (too-high (less c.args.most c.args.raw c.ranges.most c.ranges.raw c.if-most-raw.true))

pub returns : goal.returns
returns c =
    in-range
    (within (not-less c.args.raw c.args.least c.ranges.raw c.ranges.least c.if-raw-least.false)
    (not-less c.args.most c.args.raw c.ranges.most c.ranges.raw c.if-most-raw.false))
    (read_back c.args.raw c.ranges.raw)
