-- `units::byte_at` meets its contract.
-- Assumes nothing.
use mathlib.Core.Path.{refl, sym}
use lib.ListN.{get_or-eq_default}
use native.Mathlib.Omega.{arith}
use Rattle.jsontext.proofs.units.byte_at.Goals as goal

pub overflow_cast-result : goal.overflow_cast-result
overflow_cast-result c = omega (arith, c.type_inv.t c.args.i)

pub returns-then-i-t : goal.returns-then-i-t
returns-then-i-t c = (refl, omega (arith, c.type_inv.t c.args.i))

pub returns : goal.returns
returns c = (sym (get_or-eq_default c.args.t.now 0 c.if-i-t.false), omega arith)
