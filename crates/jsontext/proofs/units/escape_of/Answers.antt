-- `units::escape_of` meets its contract.
-- Assumes nothing.
use mathlib.Core.Path.{◌∙◌}
use Rattle.jsontext.proofs.Laws.Characters.{escape-short, escape-code}
use Rattle.jsontext.proofs.units.escape_of.Goals as goal

pub returns-then-b-ne117 : goal.returns-then-b-ne117
returns-then-b-ne117 c = c.short_value.ensures ∙ escape-short c.args.t.now c.byte_at-b.ensures.0 c.if-b-ne117.true

pub returns : goal.returns
returns c = cc (escape-code c.args.t.now c.byte_at-b.ensures.0 c.if-b-ne117.false)
