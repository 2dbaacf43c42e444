-- `digits::decimal::guessed` meets its contract: what is left of the characters makes the whole of what has been made.
-- Assumes nothing.
use mathlib.Core.Path.{refl}
use native.Mathlib.Omega.{arith}
use Rattle.digits.proofs.Laws.Decimal.{guessing-next, guessing-end, guessing-lt}
use Rattle.digits.proofs.decimal.guessed.Goals as goal

pub loop-c-init : goal.loop-c-init
loop-c-init c = record { within = omega arith; small = omega arith; rest = refl }

pub overflow_mul-n : goal.overflow_mul-n
overflow_mul-n c = omega (arith, guessing-lt c.loop-c.invariant c.requires)

pub overflow_cast-n : goal.overflow_cast-n
overflow_cast-n c = omega (arith, c.type_inv.s c.loop-c.c-index)

pub overflow_add-n : goal.overflow_add-n
overflow_add-n c = omega (arith, c.type_inv.s c.loop-c.c-index)

pub overflow_add-n-in-loop-c : goal.overflow_add-n-in-loop-c
overflow_add-n-in-loop-c c = omega (arith, guessing-lt c.loop-c.invariant c.requires)

pub loop-c-preserved : goal.loop-c-preserved
loop-c-preserved c = guessing-next c.loop-c.invariant c.loop-c-test.true

pub returns : goal.returns
returns c = guessing-end c.loop-c.invariant (omega arith)
