-- `wholes::is_positive` meets its contract. The loop's invariant: each character passed is a digit.
-- Assumes nothing.
use native.Mathlib.Omega.{arith}
use borrow.Author.Count.{below_more}
use borrow.Author.Rules.{rules}
use Rattle.asked.proofs.Laws.Numerals.{no-digits, zero-first, below-digit, above-digit, are-digits}
use Rattle.asked.proofs.wholes.is_positive.Goals as goal

pub returns-then-d-eq0 : goal.returns-then-d-eq0
returns-then-d-eq0 c = no-digits c.if-d-eq0.true

pub returns-then-d-lt49 : goal.returns-then-d-lt49
returns-then-d-lt49 c = zero-first c.if-d-lt49.true

pub loop-c-init : goal.loop-c-init
loop-c-init c = (search rules, λ k h. absurd (omega arith))

pub returns-then-c-lt48 : goal.returns-then-c-lt48
returns-then-c-lt48 c = below-digit (search rules) c.if-c-lt48.true

pub returns-then-c-gt57 : goal.returns-then-c-gt57
returns-then-c-gt57 c = above-digit (search rules) c.if-c-gt57.true

pub loop-c-preserved : goal.loop-c-preserved
loop-c-preserved c = (omega arith, below_more _ _ c.loop-c.invariant.1 (c.if-c-lt48.false, c.if-c-gt57.false))

pub returns : goal.returns
returns c = are-digits (omega arith) (omega arith) (omega arith) c.loop-c.invariant.1
