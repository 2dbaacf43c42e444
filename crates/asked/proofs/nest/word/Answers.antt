-- `nest::word` meets its contract.
-- Assumes nothing.
use native.Mathlib.Omega.{arith}
use Prim.Native.Nat.{◌+◌, ◌*◌}
use Rattle.numbers.proofs.Laws.Signs.{plus}
use Rattle.asked.proofs.nest.word.Goals as goal

pub returns : goal.returns
returns c = plus (c.args.low + 256 * c.args.high) (omega arith)
