-- `numerals::int` meets its contract.
-- Assumes nothing.
use native.Mathlib.Omega.{arith}
use Rattle.jsontext.proofs.Laws.Numbers.{int-zero, int-some, int-none, int-end}
use Rattle.jsontext.proofs.numerals.int.Goals as goal

pub returns-then-s-p : goal.returns-then-s-p
returns-then-s-p c = int-end c.if-s-p.true

pub returns-then-b-eq48 : goal.returns-then-b-eq48
returns-then-b-eq48 c = int-zero c.if-s-p.false c.if-b-eq48.true

pub returns-then-b-lt49 : goal.returns-then-b-lt49
returns-then-b-lt49 c = int-none c.if-s-p.false c.if-b-eq48.false (λ h. omega (arith, h.0))

pub returns-then-b-gt57 : goal.returns-then-b-gt57
returns-then-b-gt57 c = int-none c.if-s-p.false c.if-b-eq48.false (λ h. omega (arith, h.1))

pub returns : goal.returns
returns c = int-some c.if-s-p.false c.if-b-lt49.false c.if-b-gt57.false c.digits.ensures
