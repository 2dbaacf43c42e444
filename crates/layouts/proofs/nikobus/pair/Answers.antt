-- `layouts::nikobus::pair` meets its contract: the two places, each below 16, make the byte.
-- Assumes nothing.
use native.Mathlib.Omega.{arith}
use Rattle.digits.proofs.Laws.Hex.{place-lt}
use Rattle.layouts.proofs.nikobus.pair.Goals as goal

pub overflow_mul-result : goal.overflow_mul-result
overflow_mul-result c = omega (arith, place-lt c.args.high, c.place.ensures)

pub overflow_add-result : goal.overflow_add-result
overflow_add-result c =
    omega (arith, place-lt c.args.high, place-lt c.args.low, c.place.ensures, c.place-2.ensures)
