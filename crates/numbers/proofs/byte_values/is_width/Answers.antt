-- `numbers::byte_values::is_width` meets its contract: test by test.
-- Assumes nothing.
use mathlib.Core.Path.{sym, subst}
use Rattle.digits.specs.Paper.Read.{holds, fails}
use Rattle.digits.specs.Paper.LowFirst.{Width, one, two, four}
use Rattle.digits.proofs.Laws.LowFirst.{no-width}
use Rattle.numbers.proofs.byte_values.is_width.Goals as goal

pub returns-then-width-eq1 : goal.returns-then-width-eq1
returns-then-width-eq1 c = holds (subst Width (sym c.if-width-eq1.true) one)

pub returns-then-width-eq2 : goal.returns-then-width-eq2
returns-then-width-eq2 c = holds (subst Width (sym c.if-width-eq2.true) two)

pub returns-then-width-eq4 : goal.returns-then-width-eq4
returns-then-width-eq4 c = holds (subst Width (sym c.if-width-eq4.true) four)

pub returns : goal.returns
returns c = fails (no-width c.if-width-eq1.false c.if-width-eq2.false c.if-width-eq4.false)
