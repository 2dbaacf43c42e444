-- `numerals::behind_minus` meets its contract.
-- Assumes nothing.
use Rattle.jsontext.proofs.Laws.Numbers.{a-minus, no_minus, minus-end}
use Rattle.jsontext.proofs.numerals.behind_minus.Goals as goal

pub returns-then-s-p : goal.returns-then-s-p
returns-then-s-p c = minus-end c.if-s-p.true

pub returns-then-s-p-eq45 : goal.returns-then-s-p-eq45
returns-then-s-p-eq45 c = a-minus c.if-s-p.false c.if-s-p-eq45.true

pub returns : goal.returns
returns c = no_minus c.if-s-p.false c.if-s-p-eq45.false
