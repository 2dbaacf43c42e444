-- `frames::kinds::known` meets its contract: what is resolved is known.
-- Assumes nothing.
use mathlib.Core.Path.{◌∙◌}
use Rattle.frames.proofs.Laws.Kinds.{resolved-some}
use Rattle.frames.proofs.kinds.known.Goals as goal

pub returns : goal.returns
returns c = c.is_some.ensures ∙ resolved-some c.of.result c.of.ensures
