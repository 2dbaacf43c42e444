-- `lacks::is_object` meets its contract.
-- Assumes nothing.
use Rattle.asked.proofs.Laws.Lacking.{an-object}
use Rattle.asked.proofs.lacks.is_object.Goals as goal

pub returns : goal.returns
returns c =
    an-object _ c.count.ensures c.is_ok.ensures.value
