-- `host::number_calls::bolsterweft_climate` meets its contract: it is `panel::pair`, if 16 bits hold each count.
-- Assumes nothing.
use mathlib.Core.Path.{◌∙◌, ap, subst}
use Prim.Native.Nat.{ℕ}
use lib.IntN.{ℤ, pos}
use mir.Syntax.{w16}
use mir.Val.{to_z, of_z}
use Rattle.numbers.specs.Paper.Panel.{ClimatePair}
use Rattle.host.proofs.Laws.Climate.{too-far, too-wet, held, few, kept, climate-refused, climate-right}
use Rattle.host.proofs.number_calls.bolsterweft_climate.Goals as goal

pub returns-in_default : goal.returns-in_default
returns-in_default c = rw (c.no_climate.ensures.refusal_value, c.no_climate.ensures.result_value) (climate-refused (too-far c.ranges.temperature c.in_default.ensures))

pub returns-in_default-try_from : goal.returns-in_default-try_from
returns-in_default-try_from c =
    rw (c.no_climate-in_default-try_from.ensures.refusal_value, c.no_climate-in_default-try_from.ensures.result_value)
    (climate-refused (too-wet c.in_default-try_from.ensures))

pub returns : goal.returns
returns c =
    let t = c.in-Ok.ensures in
    let h = c.in-Ok-try_from.ensures in
    climate-right (held c.ranges.temperature t.0) (few h.0)
    (subst (λ (n : ℕ). ClimatePair c.args.temperature (pos n) c.pair-c.result.temperature c.pair-c.result.humidity) h.1
    (subst (λ (z : ℤ). ClimatePair z (pos c.in-Ok-try_from.humidity) c.pair-c.result.temperature c.pair-c.result.humidity)
    (ap (λ z. to_z w16 (of_z w16 z)) t.1 ∙ kept c.ranges.temperature t.0) c.pair-c.ensures))
