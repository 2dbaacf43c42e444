-- `puts::long` meets its contract: the digits are a part of the characters.
-- Assumes nothing.
use native.Mathlib.Omega.{arith}
use Rattle.digits.proofs.Laws.Decimal.{length-chars, text-part}
use Rattle.puts.proofs.Laws.Puts.{puts-as}
use Rattle.puts.proofs.long.Goals as goal

pub slice_bounds-clipped-end : goal.slice_bounds-clipped-end
slice_bounds-clipped-end c = omega (arith, length-chars c.digits-d.ensures)

pub returns : goal.returns
returns c = puts-as (text-part c.digits-d.ensures) c.clipped.ensures
