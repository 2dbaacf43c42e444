-- `lines::write` meets its contract: the empty map is no sheet.
-- Assumes nothing.
use Rattle.lines.proofs.write.Goals as goal

pub returns : goal.returns
returns c = c.write_mapped.ensures
