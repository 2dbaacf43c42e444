-- `json_values::plain` meets its contract: the bytes passed are spelt as themselves.
-- Assumes nothing.
use mathlib.Core.Path.{◌≡◌, refl}
use native.Mathlib.Omega.{arith}
use lib.ListN.{length}
use Rattle.json_values.specs.Paper.Json.{each_escaped}
use Rattle.json_values.proofs.Laws.Spelt.{one-more-plain}
use Rattle.json_values.proofs.plain.Goals as goal

pub loop-i-init : goal.loop-i-init
unfolding each_escaped
loop-i-init c = refl

pub returns-then-not-is_plain : goal.returns-then-not-is_plain
returns-then-not-is_plain c = record { upper_bound = omega arith; s_value = c.loop-i.invariant }

pub loop-i-preserved : goal.loop-i-preserved
loop-i-preserved c = one-more-plain _ c.loop-i.i (omega arith) (c.is_plain.ensures c.if-not-is_plain.false) c.loop-i.invariant

pub returns : goal.returns
returns c =
    let e : c.loop-i.i ≡ length c.args.s.now = omega arith in
    record { upper_bound = omega arith; s_value = rw e at c.loop-i.invariant }
