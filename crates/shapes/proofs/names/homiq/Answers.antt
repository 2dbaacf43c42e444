-- `names::homiq` meets its contract.
-- Assumes nothing.
use Rattle.shapes.specs.Paper.Members.{names}
use Rattle.shapes.proofs.names.homiq.Goals as goal

pub returns : goal.returns
unfolding names
returns c = c.nth.ensures
