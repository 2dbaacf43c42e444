-- `json_values::escaped_bytes` meets its contract. The loop's invariant: the bytes passed are put.
-- Assumes nothing.
use mathlib.Core.Path.{refl, ap, ◌∙◌}
use native.Mathlib.Omega.{arith}
use lib.Seq.{take_all}
use Rattle.puts.proofs.Laws.Puts.{none, puts-as}
use Rattle.puts.proofs.Laws.Spelt.{turn}
use Rattle.json_values.specs.Paper.Json.{escaped, each_escaped}
use Rattle.json_values.proofs.Laws.Spelt.{escaped-last}
use Rattle.json_values.proofs.escaped_bytes.Goals as goal

pub loop-b-init : goal.loop-b-init
unfolding each_escaped
loop-b-init c = (refl, none _ _ (omega (arith, c.well_formed)) (omega arith))

pub loop-b-preserved : goal.loop-b-preserved
loop-b-preserved c =
    (c.escaped-next.auto.room ∙ c.loop-b.invariant.0, turn escaped each_escaped escaped-last c.args.s.now c.loop-b.b-index (omega arith) c.loop-b.invariant.1 c.escaped-next.ensures)

pub shape_of-room : goal.shape_of-room
shape_of-room c = omega arith

pub returns : goal.returns
returns c = puts-as (ap each_escaped (take_all c.loop-b.b-index c.args.s.now (omega arith))) c.loop-b.invariant.1
