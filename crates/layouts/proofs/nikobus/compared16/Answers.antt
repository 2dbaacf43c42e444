-- `layouts::nikobus::compared16` meets its contract: the digits are read as the definition reads them.
-- Assumes nothing.
use mathlib.Core.Path.{ap₂}
use Prim.Native.Nat.{ℕ, ◌+◌, ◌-◌, ◌*◌}
use native.Mathlib.Omega.{arith}
use lib.ListN.{length}
use Rattle.layouts.proofs.Laws.Nikobus.{compared-sixteen, hex-there, hex-front}
use Rattle.layouts.proofs.nikobus.compared16.Goals as goal

pub pair-requires : goal.pair-requires
pair-requires c = record { t = hex-there c.args.f.now (length c.args.f.now - 7) c.requires.t (omega (arith, c.requires.in_bounds)) (omega (arith, c.requires.in_bounds)); t_2 = hex-there c.args.f.now (length c.args.f.now - 7 + 1) c.requires.t (omega (arith, c.requires.in_bounds)) (omega (arith, c.requires.in_bounds)) }

pub pair-requires-2 : goal.pair-requires-2
pair-requires-2 c = record { t = hex-there c.args.f.now (length c.args.f.now - 7 + 2) c.requires.t (omega (arith, c.requires.in_bounds)) (omega (arith, c.requires.in_bounds)); t_2 = hex-there c.args.f.now (length c.args.f.now - 7 + 3) c.requires.t (omega (arith, c.requires.in_bounds)) (omega (arith, c.requires.in_bounds)) }

pub payload_crc-requires : goal.payload_crc-requires
payload_crc-requires c = hex-front c.args.f.now c.requires.in_bounds c.requires.t

pub returns : goal.returns
returns c = compared-sixteen c.args.f.now _ _ (ap₂ (λ (x y : ℕ). x * 256 + y) c.pair.ensures c.pair-2.ensures) c.payload_crc.ensures
