-- `layouts::nikobus::compared8` meets its contract: the digits are read as the definition reads them.
-- Assumes nothing.
use Prim.Native.Nat.{◌+◌, ◌-◌}
use native.Mathlib.Omega.{arith}
use lib.ListN.{length}
use Rattle.layouts.proofs.Laws.Nikobus.{compared-eight, hex-there}
use Rattle.layouts.proofs.nikobus.compared8.Goals as goal

pub pair-requires : goal.pair-requires
pair-requires c = record { t = hex-there c.args.f.now (length c.args.f.now - 3) c.requires.t (omega (arith, c.requires.in_bounds)) (omega (arith, c.requires.in_bounds)); t_2 = hex-there c.args.f.now (length c.args.f.now - 3 + 1) c.requires.t (omega (arith, c.requires.in_bounds)) (omega (arith, c.requires.in_bounds)) }

pub returns : goal.returns
returns c = compared-eight c.args.f.now _ _ c.pair.ensures c.of.ensures
