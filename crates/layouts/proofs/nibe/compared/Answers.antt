-- `layouts::nibe::compared` meets its contract: the two values are the definition's.
-- Assumes nothing.
use mathlib.Core.Path.{refl}
use Prim.Native.Nat.{◌-◌}
use native.Mathlib.Omega.{arith}
use lib.ListN.{length}
use Rattle.layouts.specs.Work.Nibe.{nibe_pair}
use Rattle.layouts.proofs.Laws.Buses.{same-pair}
use Rattle.layouts.proofs.nibe.compared.Goals as goal

pub overflow_cast-result : goal.overflow_cast-result
overflow_cast-result c = omega (arith, c.type_inv.f (length c.args.f.now - 1))

pub returns : goal.returns
unfolding nibe_pair
returns c = same-pair refl c.of.ensures
