-- `numerals::exp` meets its contract.
-- Assumes nothing.
use Rattle.jsontext.proofs.Laws.Numbers.{exp-none, exp-end, exp-lower, exp-upper}
use Rattle.jsontext.proofs.numerals.exp.Goals as goal

pub returns-then-s-p : goal.returns-then-s-p
returns-then-s-p c = exp-end c.requires c.if-s-p.true

pub returns-then-b-eq101 : goal.returns-then-b-eq101
returns-then-b-eq101 c = exp-lower c.if-s-p.false c.if-b-eq101.true c.signed_digits.ensures

pub returns-then-b-eq69 : goal.returns-then-b-eq69
returns-then-b-eq69 c = exp-upper c.if-s-p.false c.if-b-eq69.true c.signed_digits-then-b-eq69.ensures

pub returns : goal.returns
returns c = exp-none c.if-s-p.false c.if-b-eq101.false c.if-b-eq69.false
