-- `messages::nibe::value_of` meets its contract: bytes of a width are read as the number that they are.
-- Assumes nothing.
use mathlib.Core.Path.{◌∙◌}
use Rattle.messages.proofs.Laws.NibeLook.{number-read}
use Rattle.messages.proofs.nibe.value_of.Goals as goal

pub returns : goal.returns
returns c = c.unwrap_or.ensures ∙ number-read c.args.s.now c.number_of.result (record { each = λ i. (c.type_inv.s i).fits }) c.requires c.number_of.ensures
