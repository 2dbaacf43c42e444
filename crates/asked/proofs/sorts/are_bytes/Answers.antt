-- `sorts::are_bytes` meets its contract.
-- Assumes nothing.
use Rattle.asked.proofs.Laws.Exact.{content-so}
use Rattle.asked.proofs.Laws.Sorted.{exactly-spelt}
use Rattle.asked.proofs.sorts.are_bytes.Goals as goal

pub returns : goal.returns
returns c =
    exactly-spelt _ _ (content-so _ _ c.hex.ensures.reads c.hex.ensures.len_in_bounds _ c.exact.ensures) c.is_ok.ensures.value
