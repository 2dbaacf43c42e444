-- `wholes::is_whole` meets its contract.
-- Assumes nothing.
use native.Mathlib.Omega.{arith}
use Rattle.digits.proofs.Laws.Parts.{part-rest}
use Rattle.asked.proofs.Laws.Numerals.{no_whole, only_zero, below-zero, above_zero}
use Rattle.asked.proofs.wholes.is_whole.Goals as goal

pub returns-then-v-eq0 : goal.returns-then-v-eq0
returns-then-v-eq0 c = no_whole c.if-v-eq0.true

pub returns-then-v-eq48 : goal.returns-then-v-eq48
returns-then-v-eq48 c = only_zero c.if-v-eq48.true

pub returns-then-v-eq45 : goal.returns-then-v-eq45
returns-then-v-eq45 c = below-zero (omega arith) c.if-v-eq45.true (rw (part-rest 1) at c.is_positive.ensures)

pub returns : goal.returns
returns c = above_zero c.if-v-eq48.false c.if-v-eq45.false c.is_positive-2.ensures
