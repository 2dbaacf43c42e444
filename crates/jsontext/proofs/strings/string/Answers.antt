-- `strings::string` meets its contract.
-- Assumes nothing.
use native.Mathlib.Omega.{arith}
use Rattle.jsontext.proofs.Laws.Strings.{opened, not_opened, no-string, closed, broken, unclosed, one_more, goes_on}
use Rattle.jsontext.proofs.strings.string.Goals as goal

pub returns-then-s-p : goal.returns-then-s-p
returns-then-s-p c = no-string c.if-s-p.true

pub bounds-s-p : goal.bounds-s-p
bounds-s-p c = omega arith

pub returns-then-s-p-ne34 : goal.returns-then-s-p-ne34
returns-then-s-p-ne34 c = not_opened c.if-s-p.false c.if-s-p-ne34.true

pub overflow_add-i : goal.overflow_add-i
overflow_add-i c = omega arith

pub loop-i-init : goal.loop-i-init
loop-i-init c = (opened c.if-s-p.false c.if-s-p-ne34.false, omega arith)

pub bounds-s-i : goal.bounds-s-i
bounds-s-i c = omega arith

pub overflow_add-result : goal.overflow_add-result
overflow_add-result c = omega arith

pub returns-then-s-i-eq34 : goal.returns-then-s-i-eq34
returns-then-s-i-eq34 c = closed c.loop-i.invariant.0 c.loop-i-test.true c.if-s-i-eq34.true

pub returns-in_default : goal.returns-in_default
returns-in_default c = (broken c.loop-i.invariant.0 c.loop-i-test.true c.if-s-i-eq34.false c.in_default.ensures)

pub loop-i-smaller : goal.loop-i-smaller
loop-i-smaller c = let v = goes_on c.in-Some.ensures in omega (arith, v.0, v.1)

pub loop-i-preserved : goal.loop-i-preserved
loop-i-preserved c = (one_more c.loop-i.invariant.0 c.loop-i-test.true c.if-s-i-eq34.false c.in-Some.ensures, (goes_on c.in-Some.ensures).1)

pub returns : goal.returns
returns c = unclosed c.loop-i.invariant.0 c.loop-i-test.false
