-- `numbers::single::in_range_fits` meets its contract: of 32 bits, eight zeros or more leave 24 at most.
-- Assumes nothing.
use mathlib.Core.Path.{ap, ◌∙◌}
use Prim.Native.Nat.{ℕ, ◌+◌}
use native.Mathlib.Omega.{arith}
use lib.Dec.{leb}
use lib.IntN.{nat_abs}
use lib.Count.{count_leading_zeros, count_trailing_zeros, leading_le, trailing_le}
use Rattle.numbers.proofs.Laws.Signs.{read_back, magnitude-lt}
use Rattle.numbers.proofs.Laws.Zeros.{by-zeros}
use Rattle.numbers.proofs.single.in_range_fits.Goals as goal

pub overflow_add-result : goal.overflow_add-result
overflow_add-result c = omega (arith, leading_le 32 c.magnitude-n.result, trailing_le 32 c.magnitude-n.result)

pub returns : goal.returns
returns c =
    ap (λ (n : ℕ). leb 8 (count_leading_zeros 32 n + count_trailing_zeros 32 n)) (c.magnitude-n.ensures ∙ ap nat_abs (read_back c.args.raw c.ranges.raw))
    ∙ by-zeros c.args.raw (magnitude-lt c.args.raw c.requires)
