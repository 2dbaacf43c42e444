-- `numerals::behind_sign` meets its contract.
-- Assumes nothing.
use Rattle.jsontext.proofs.Laws.Numbers.{sign-minus, sign-plus, no_sign, sign-end}
use Rattle.jsontext.proofs.numerals.behind_sign.Goals as goal

pub returns-then-s-p : goal.returns-then-s-p
returns-then-s-p c = sign-end c.if-s-p.true

pub returns-then-b-eq45 : goal.returns-then-b-eq45
returns-then-b-eq45 c = sign-minus c.if-s-p.false c.if-b-eq45.true

pub returns-then-b-eq43 : goal.returns-then-b-eq43
returns-then-b-eq43 c = sign-plus c.if-s-p.false c.if-b-eq43.true

pub returns : goal.returns
returns c = no_sign c.if-s-p.false c.if-b-eq45.false c.if-b-eq43.false
