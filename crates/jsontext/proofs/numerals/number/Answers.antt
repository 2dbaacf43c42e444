-- `numerals::number` meets its contract.
-- Assumes nothing.
use Rattle.jsontext.proofs.Laws.Places.{found, then-none}
use Rattle.jsontext.proofs.Laws.Numbers.{number-found, then_may, may, may-then, may-stop}
use Rattle.jsontext.proofs.numerals.number.Goals as goal

pub returns-in_err-b : goal.returns-in_err-b
returns-in_err-b c = rw c.from_residual.ensures (number-found c.behind_minus-a.ensures (then-none c.in_err-b.ensures))

pub frac-requires : goal.frac-requires
frac-requires c = (found c.in_ok-b.ensures).within

pub returns-in_err-c : goal.returns-in_err-c
returns-in_err-c c =
    rw c.from_residual-in_err-c.ensures
    (number-found c.behind_minus-a.ensures (then_may (found c.in_ok-b.ensures) (may-stop c.in_err-c.ensures)))

pub exp-requires : goal.exp-requires
exp-requires c = (may c.in_ok-c.ensures).within

pub returns : goal.returns
returns c = number-found c.behind_minus-a.ensures (then_may (found c.in_ok-b.ensures) (may-then (may c.in_ok-c.ensures) c.exp.ensures))
