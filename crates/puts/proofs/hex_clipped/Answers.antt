-- `puts::hex_clipped` meets its contract. The loop's invariant: the bytes passed are put.
-- Assumes nothing.
use mathlib.Core.Path.{refl, ap, ◌∙◌}
use native.Mathlib.Omega.{arith}
use lib.Seq.{take_all}
use Rattle.digits.specs.Paper.Hex.{hex_byte, hex_bytes}
use Rattle.puts.proofs.Laws.Puts.{none, puts-as}
use Rattle.puts.proofs.Laws.Spelt.{hex-last, turn}
use Rattle.puts.proofs.hex_clipped.Goals as goal

pub loop-b-init : goal.loop-b-init
unfolding hex_bytes
loop-b-init c = (omega arith, refl, none _ _ (omega (arith, c.well_formed)) (omega arith))

pub loop-b-preserved : goal.loop-b-preserved
loop-b-preserved c =
    (omega arith, c.bytes-next.auto.room ∙ c.loop-b.invariant.1, turn hex_byte hex_bytes hex-last c.args.s.now c.loop-b.b-index c.loop-b-test.true c.loop-b.invariant.2 (puts-as c.two_digits.ensures c.bytes-next.ensures))

pub shape_of-room : goal.shape_of-room
shape_of-room c = omega arith

pub returns : goal.returns
returns c = puts-as (ap hex_bytes (take_all c.loop-b.b-index c.args.s.now c.loop-b-test.false)) c.loop-b.invariant.2
