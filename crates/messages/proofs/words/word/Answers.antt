-- `messages::words::word` meets its contract: the library's number of two bytes is the one of document 01.
-- Assumes nothing.
use mathlib.Core.Path.{◌∙◌}
use Rattle.messages.proofs.Laws.Words.{two-bytes}
use Rattle.messages.proofs.words.word.Goals as goal

pub returns : goal.returns
returns c = c.from_le_bytes.ensures ∙ two-bytes _ _
