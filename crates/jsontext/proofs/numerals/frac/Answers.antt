-- `numerals::frac` meets its contract.
-- Assumes nothing.
use Rattle.jsontext.proofs.Laws.Numbers.{frac-none, frac-end, frac-some}
use Rattle.jsontext.proofs.numerals.frac.Goals as goal

pub returns-then-s-p : goal.returns-then-s-p
returns-then-s-p c = frac-end c.requires c.if-s-p.true

pub returns-then-s-p-ne46 : goal.returns-then-s-p-ne46
returns-then-s-p-ne46 c = frac-none c.if-s-p.false c.if-s-p-ne46.true

pub returns : goal.returns
returns c = frac-some c.if-s-p.false c.if-s-p-ne46.false c.some_digits.ensures
