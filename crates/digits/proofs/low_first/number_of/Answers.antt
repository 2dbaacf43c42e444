-- `digits::low_first::number_of` meets its contract: of each width that there is, the bytes are the number's.
-- Assumes nothing.
use Rattle.digits.specs.Paper.LowFirst.{one, two, four}
use Rattle.digits.proofs.Laws.LowFirst.{number_is, number-none}
use Rattle.digits.proofs.low_first.number_of.Goals as goal

pub returns-then-n-eq1 : goal.returns-then-n-eq1
returns-then-n-eq1 c =
    number_is _ _ _ (record { each = λ i. (c.type_inv.s i).fits }) c.if-n-eq1.true one c.value.ensures

pub returns-then-n-eq2 : goal.returns-then-n-eq2
returns-then-n-eq2 c =
    number_is _ _ _ (record { each = λ i. (c.type_inv.s i).fits }) c.if-n-eq2.true two c.value-then-n-eq2.ensures

pub returns-then-n-eq4 : goal.returns-then-n-eq4
returns-then-n-eq4 c =
    number_is _ _ _ (record { each = λ i. (c.type_inv.s i).fits }) c.if-n-eq4.true four c.value-then-n-eq4.ensures

pub returns : goal.returns
returns c =
    number-none _ c.if-n-eq1.false c.if-n-eq2.false c.if-n-eq4.false
