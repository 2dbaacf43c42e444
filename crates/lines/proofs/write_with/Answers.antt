-- `lines::write_with` meets its contract: it lends a map.
-- Assumes nothing.
use Rattle.lines.proofs.write_with.Goals as goal

pub returns : goal.returns
returns c = c.write_opened.ensures
