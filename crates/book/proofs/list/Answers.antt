-- `book::list` meets its contract: the empty map is no sheet.
-- Assumes nothing.
use Rattle.book.proofs.list.Goals as goal

pub returns : goal.returns
returns c = c.list_mapped.ensures
