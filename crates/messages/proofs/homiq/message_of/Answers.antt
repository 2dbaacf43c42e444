-- `messages::homiq::message_of` meets its contract: by the first two fields.
-- Assumes nothing.
use mathlib.Core.Path.{◌∙◌, ap₂}
use Rattle.messages.specs.Work.Homiq.{which_of}
use Rattle.messages.proofs.Laws.HomiqLook.{field-bytes}
use Rattle.messages.proofs.homiq.message_of.Goals as goal

pub returns : goal.returns
returns c = c.which.ensures ∙ ap₂ which_of (field-bytes 0 c.field.ensures) (field-bytes 1 c.field-2.ensures)
