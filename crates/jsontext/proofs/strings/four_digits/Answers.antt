-- `strings::four_digits` meets its contract.
-- Assumes nothing.
use Rattle.jsontext.proofs.Laws.Places.{then-none, then_found, found}
use Rattle.jsontext.proofs.strings.four_digits.Goals as goal

pub returns-in_err-a : goal.returns-in_err-a
returns-in_err-a c = rw c.from_residual.ensures (then-none c.in_err-a.ensures)

pub returns-in_err-b : goal.returns-in_err-b
returns-in_err-b c = rw c.from_residual-in_err-b.ensures (then_found (found c.in_ok-a.ensures) (then-none c.in_err-b.ensures))

pub returns-in_err-c : goal.returns-in_err-c
returns-in_err-c c = rw c.from_residual-in_err-c.ensures (then_found (found c.in_ok-a.ensures) (then_found (found c.in_ok-b.ensures) (then-none c.in_err-c.ensures)))

pub returns : goal.returns
returns c = then_found (found c.in_ok-a.ensures) (then_found (found c.in_ok-b.ensures) (then_found (found c.in_ok-c.ensures) c.digit-4.ensures))
