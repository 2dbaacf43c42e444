-- `layouts::homiq::width` meets its contract: the digits of a number below 10, 100 and 1,000 are one, two and three.
-- Assumes nothing.
use mathlib.Core.Path.{sym, ap}
use lib.ListN.{length}
use Rattle.digits.proofs.Laws.Decimal.{decimal-small}
use Rattle.layouts.proofs.Laws.HomiqFields.{width_two, width_three}
use Rattle.layouts.proofs.homiq.width.Goals as goal

pub returns-then-v-lt10 : goal.returns-then-v-lt10
returns-then-v-lt10 c = sym (ap length (decimal-small _ c.if-v-lt10.true))

pub returns-then-v-lt100 : goal.returns-then-v-lt100
returns-then-v-lt100 c = width_two _ c.if-v-lt10.false c.if-v-lt100.true

pub returns : goal.returns
returns c = width_three _ c.if-v-lt100.false c.requires
