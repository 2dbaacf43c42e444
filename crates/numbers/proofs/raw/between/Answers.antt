-- `numbers::raw::between` meets its contract, test by test.
-- Assumes nothing.
use Rattle.numbers.proofs.Laws.Signs.{less, not-less, too-low, too-high, within}
use Rattle.numbers.proofs.raw.between.Goals as goal

pub returns-then-z-least : goal.returns-then-z-least
returns-then-z-least c = too-low (less c.args.z c.args.least c.ranges.z c.ranges.least c.if-z-least.true)

pub returns-then-most-z : goal.returns-then-most-z
returns-then-most-z c = too-high (less c.args.most c.args.z c.ranges.most c.ranges.z c.if-most-z.true)

pub returns : goal.returns
returns c =
    within (not-less c.args.z c.args.least c.ranges.z c.ranges.least c.if-z-least.false) (not-less c.args.most c.args.z c.ranges.most c.ranges.z c.if-most-z.false)
