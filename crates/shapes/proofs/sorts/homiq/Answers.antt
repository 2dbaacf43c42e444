-- `sorts::homiq` meets its contract.
-- Assumes nothing.
use Rattle.shapes.specs.Paper.Members.{sorts}
use Rattle.shapes.proofs.sorts.homiq.Goals as goal

pub returns : goal.returns
unfolding sorts
returns c = c.nth.ensures
