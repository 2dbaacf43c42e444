-- `puts::clipped` meets its contract. The loop's invariant: the bytes passed are put.
-- Assumes nothing.
use mathlib.Core.Path.{refl, ◌∙◌}
use native.Mathlib.Omega.{arith}
use lib.Seq.{take_all}
use Rattle.puts.proofs.Laws.Puts.{none, puts-as, step}
use Rattle.puts.proofs.clipped.Goals as goal

pub loop-b-init : goal.loop-b-init
loop-b-init c = (omega arith, refl, none _ _ (omega (arith, c.well_formed)) (omega arith))

pub loop-b-preserved : goal.loop-b-preserved
loop-b-preserved c =
    (omega arith, c.byte-next.auto.room ∙ c.loop-b.invariant.1, step c.args.s.now c.loop-b.b-index c.loop-b-test.true c.loop-b.invariant.2 c.byte-next.ensures)

pub shape_of-room : goal.shape_of-room
shape_of-room c = omega arith

pub returns : goal.returns
returns c = puts-as (take_all c.loop-b.b-index c.args.s.now c.loop-b-test.false) c.loop-b.invariant.2
