-- `book::open` meets its contract: the count, and what was noted is left aside.
-- Assumes nothing.
use Rattle.book.proofs.Laws.Entries.{opens-so}
use Rattle.book.proofs.open.Goals as goal

pub returns : goal.returns
returns c = opens-so c.opened.ensures
