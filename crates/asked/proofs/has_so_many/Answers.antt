-- `has_so_many` meets its contract.
-- Assumes nothing.
use Rattle.asked.proofs.Laws.Counted.{count_told}
use Rattle.asked.proofs.has_so_many.Goals as goal

pub returns : goal.returns
returns c = count_told _ _ _ c.count.ensures c.eq.ensures
