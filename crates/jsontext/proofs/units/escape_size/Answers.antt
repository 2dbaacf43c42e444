-- `units::escape_size` meets its contract.
-- Assumes nothing.
use borrow.Author.Tests.{eq-eqb, ne_eqb}
use Rattle.jsontext.proofs.units.escape_size.Goals as goal

pub returns-then-b-eq117 : goal.returns-then-b-eq117
returns-then-b-eq117 c = simp (eq-eqb _ _ c.if-b-eq117.true)

pub returns : goal.returns
returns c = simp (ne_eqb _ _ c.if-b-eq117.false)
