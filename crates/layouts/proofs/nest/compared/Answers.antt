-- `layouts::nest::compared` meets its contract: the two values are the definition's.
-- Assumes nothing.
use mathlib.Core.Path.{refl}
use Prim.Native.Nat.{◌+◌, ◌-◌}
use native.Mathlib.Omega.{arith}
use lib.ListN.{length}
use Rattle.layouts.proofs.Laws.Nest.{crc-compared}
use Rattle.layouts.proofs.nest.compared.Goals as goal

pub overflow_cast-result : goal.overflow_cast-result
overflow_cast-result c = omega (arith, c.type_inv.u (length c.args.u.now - 2))

pub overflow_cast-result-2 : goal.overflow_cast-result-2
overflow_cast-result-2 c = omega (arith, c.type_inv.u (length c.args.u.now - 2 + 1))

pub overflow_mul-result : goal.overflow_mul-result
overflow_mul-result c = omega (arith, c.type_inv.u (length c.args.u.now - 2 + 1))

pub overflow_add-result-2 : goal.overflow_add-result-2
overflow_add-result-2 c = omega (arith, c.shared_slice_known-2-1.given (length c.args.u.now - 2), c.type_inv.u (length c.args.u.now - 2 + 1))

pub returns : goal.returns
returns c = crc-compared c.args.u.now _ _ refl c.of.ensures
