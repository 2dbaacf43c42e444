-- `digits::decimal::number_of` meets its contract: what is taken for a number is one where its digits are the characters.
-- Assumes nothing.
use native.Mathlib.Omega.{arith}
use Rattle.digits.proofs.Laws.Decimal.{length-chars, none-long, none-large, read_same, read-other}
use Rattle.digits.proofs.decimal.number_of.Goals as goal

pub returns-then-s-gt10 : goal.returns-then-s-gt10
returns-then-s-gt10 c = none-long _ c.if-s-gt10.true

pub returns-then-n-gt4294967295 : goal.returns-then-n-gt4294967295
returns-then-n-gt4294967295 c = none-large _ _ c.guessed-n.ensures c.if-n-gt4294967295.true

pub slice_bounds-same-end : goal.slice_bounds-same-end
slice_bounds-same-end c = omega (arith, length-chars c.digits-d.ensures)

pub returns-then-same : goal.returns-then-same
returns-then-same c =
    read_same _ _ _ _ c.guessed-n.ensures c.digits-d.ensures c.if-n-gt4294967295.false c.same.ensures c.if-same.true

pub returns : goal.returns
returns c =
    read-other _ _ _ _ c.guessed-n.ensures c.digits-d.ensures c.same.ensures c.if-same.false
