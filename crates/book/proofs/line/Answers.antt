-- `book::line` meets its contract: the empty map is no sheet.
-- Assumes nothing.
use Rattle.book.proofs.line.Goals as goal

pub returns : goal.returns
returns c = c.line_mapped.ensures
