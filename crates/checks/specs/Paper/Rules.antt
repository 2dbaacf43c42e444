-- Which check the code's description of one means.
-- Assumes nothing.
use Rattle.checks.specs.Paper.Bits as paper
use Rattle.checks.specs.Paper.Check.{Check}
use Rattle.checks.specs.declared.rule.BitOrder.{BitOrder}
use Rattle.checks.specs.declared.rule.BitOrder.TheVariants.{HighBitFirst, LowBitFirst}
use Rattle.checks.specs.declared.rule.Rule.{Rule}

abbrev pub order_of : BitOrder → paper.BitOrder
order_of HighBitFirst = paper.high_bit_first
order_of LowBitFirst = paper.low_bit_first

abbrev pub check_of : Rule → Check
check_of r = record { width = r.width; poly = r.poly; start = r.start; order = order_of r.order }
