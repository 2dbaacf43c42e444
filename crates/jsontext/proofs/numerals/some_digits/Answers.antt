-- `numerals::some_digits` meets its contract.
-- Assumes nothing.
use native.Mathlib.Omega.{arith}
use Rattle.jsontext.proofs.Laws.Numbers.{digits_from, no_digit, digits-end}
use Rattle.jsontext.proofs.numerals.some_digits.Goals as goal

pub returns-then-s-p : goal.returns-then-s-p
returns-then-s-p c = digits-end c.if-s-p.true

pub returns-then-b-lt48 : goal.returns-then-b-lt48
returns-then-b-lt48 c = no_digit c.if-s-p.false (λ h. omega (arith, h.0))

pub returns-then-b-gt57 : goal.returns-then-b-gt57
returns-then-b-gt57 c = no_digit c.if-s-p.false (λ h. omega (arith, h.1))

pub returns : goal.returns
returns c = digits_from c.if-s-p.false c.if-b-lt48.false c.if-b-gt57.false c.digits.ensures
