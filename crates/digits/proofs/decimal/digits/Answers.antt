-- `digits::decimal::digits` meets its contract: the digits that are done stand at the end, and those of the rest have their places before them.
-- Assumes nothing.
use native.Mathlib.Omega.{arith}
use Rattle.digits.proofs.Laws.Decimal.{left-start, place-left, left-next, left_end}
use Rattle.digits.proofs.decimal.digits.Goals as goal

pub loop-rest-init : goal.loop-rest-init
loop-rest-init c = left-start 19 c.args.n (omega arith)

pub overflow_cast-chars : goal.overflow_cast-chars
overflow_cast-chars c = omega arith

pub overflow_add-chars : goal.overflow_add-chars
overflow_add-chars c = omega arith

pub bounds-chars-from : goal.bounds-chars-from
bounds-chars-from c = omega (arith, c.loop-rest.invariant.place)

pub overflow_sub-from : goal.overflow_sub-from
overflow_sub-from c = place-left c.loop-rest.invariant (omega arith)

pub loop-rest-smaller : goal.loop-rest-smaller
loop-rest-smaller c = omega arith

pub loop-rest-preserved : goal.loop-rest-preserved
loop-rest-preserved c = left-next c.loop-rest.invariant (omega arith)

pub overflow_cast-chars-2 : goal.overflow_cast-chars-2
overflow_cast-chars-2 c = omega arith

pub overflow_add-chars-2 : goal.overflow_add-chars-2
overflow_add-chars-2 c = omega arith

pub bounds-chars-from-2 : goal.bounds-chars-from-2
bounds-chars-from-2 c = omega (arith, c.loop-rest.invariant.place)

pub returns : goal.returns
returns c = left_end c.loop-rest.invariant (omega arith)
