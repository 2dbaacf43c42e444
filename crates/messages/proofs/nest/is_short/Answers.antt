-- `messages::nest::is_short` meets its contract: by its test.
-- Assumes nothing.
use Rattle.std.proofs.lemmas.Bool.{leb-true, le-leb}
use Rattle.messages.proofs.Laws.Telling.{tells}
use Rattle.messages.proofs.nest.is_short.Goals as goal

pub returns : goal.returns
returns c = tells _ (leb-true _ _) (le-leb _ _)
