-- `framed` meets its contract.
-- Assumes nothing.
use Rattle.asked.proofs.Laws.Answered.{frames}
use Rattle.asked.proofs.framed.Goals as goal

pub returns : goal.returns
returns c =
    frames _ c.encode.ensures c.kind.ensures c.map_err.ensures.cases
