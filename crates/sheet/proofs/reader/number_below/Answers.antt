-- `sheet::reader::number_below` meets its contract. The loop's invariant: the characters passed are the digits of n.
-- Assumes nothing.
use mathlib.Core.Path.{sym, ◌∙◌}
use native.Mathlib.Omega.{arith}
use borrow.Author.Tests.{eqb-true, eqb-false}
use Rattle.sheet.specs.Work.Lines.{is}
use Rattle.sheet.proofs.Laws.Below.{digits-start, digits-next, digits-most, digits-end, none-empty, none-long, zero-alone, leading-zero, no_digit, number-large}
use Rattle.sheet.proofs.reader.number_below.Goals as goal

pub returns-then-is_empty : goal.returns-then-is_empty
returns-then-is_empty c = none-empty _ (eqb-true _ _ (sym c.is_empty.ensures ∙ c.if-is_empty.true))

pub returns-then-s-gt5 : goal.returns-then-s-gt5
returns-then-s-gt5 c = none-long _ c.requires.1 c.if-s-gt5.true

pub returns-then-s-eq1 : goal.returns-then-s-eq1
returns-then-s-eq1 c = zero-alone _ c.requires.0 c.if-s-eq48.true c.if-s-eq1.true

pub returns-then-s-eq48 : goal.returns-then-s-eq48
returns-then-s-eq48 c = leading-zero _ c.if-s-eq48.true c.if-s-eq1.false

pub loop-c-init : goal.loop-c-init
loop-c-init c = digits-start _

pub returns-then-c-lt48 : goal.returns-then-c-lt48
returns-then-c-lt48 c = no_digit _ {i = c.loop-c.c-index} (omega arith) (λ h k. omega (arith, c.if-c-lt48.true))

pub returns-then-c-gt57 : goal.returns-then-c-gt57
returns-then-c-gt57 c = no_digit _ {i = c.loop-c.c-index} (omega arith) (λ h k. omega (arith, c.if-c-gt57.true))

pub overflow_mul-n : goal.overflow_mul-n
overflow_mul-n c = omega (arith, digits-most c.loop-c.invariant c.if-s-gt5.false)

pub overflow_add-n : goal.overflow_add-n
overflow_add-n c = omega (arith, digits-most c.loop-c.invariant c.if-s-gt5.false)

pub loop-c-preserved : goal.loop-c-preserved
loop-c-preserved c = digits-next c.if-s-eq48.false c.loop-c.invariant (omega arith) c.if-c-lt48.false c.if-c-gt57.false

pub returns-then-n-most : goal.returns-then-n-most
returns-then-n-most c = is c.if-n-most.true (digits-end c.loop-c.invariant (omega arith) (eqb-false _ _ (sym c.is_empty.ensures ∙ c.if-is_empty.false)))

pub returns : goal.returns
returns c = number-large _ (digits-end c.loop-c.invariant (omega arith) (eqb-false _ _ (sym c.is_empty.ensures ∙ c.if-is_empty.false))) c.if-n-most.false
