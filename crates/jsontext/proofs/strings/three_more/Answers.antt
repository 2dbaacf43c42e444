-- `strings::three_more` meets its contract.
-- Assumes nothing.
use Rattle.jsontext.proofs.Laws.Places.{then-none, then_found, found}
use Rattle.jsontext.proofs.strings.three_more.Goals as goal

pub returns-in_err-a : goal.returns-in_err-a
returns-in_err-a c = rw c.from_residual.ensures (then-none c.in_err-a.ensures)

pub returns : goal.returns
returns c = then_found (found c.in_ok-a.ensures) c.two_more.ensures
