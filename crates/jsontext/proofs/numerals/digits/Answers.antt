-- `numerals::digits` meets its contract.
-- Assumes nothing.
use native.Mathlib.Omega.{arith}
use Rattle.jsontext.proofs.Laws.Blanks.{start, further, stop, stop-end, digits}
use Rattle.jsontext.proofs.numerals.digits.Goals as goal

pub loop-i-init : goal.loop-i-init
loop-i-init c = start

pub bounds-s-i : goal.bounds-s-i
bounds-s-i c = omega arith

pub returns-then-b-lt48 : goal.returns-then-b-lt48
returns-then-b-lt48 c = stop digits c.loop-i-test.true (λ h. omega (arith, h.0)) c.loop-i.invariant

pub returns-then-b-gt57 : goal.returns-then-b-gt57
returns-then-b-gt57 c = stop digits c.loop-i-test.true (λ h. omega (arith, h.1)) c.loop-i.invariant

pub overflow_add-i : goal.overflow_add-i
overflow_add-i c = omega arith

pub loop-i-smaller : goal.loop-i-smaller
loop-i-smaller c = omega arith

pub loop-i-preserved : goal.loop-i-preserved
loop-i-preserved c = further digits c.loop-i-test.true (c.if-b-lt48.false, c.if-b-gt57.false) c.loop-i.invariant

pub returns : goal.returns
returns c = stop-end digits c.loop-i-test.false c.loop-i.invariant
