-- `host_book::bolsterweft_book_line` meets its contract: it is `book::line`.
-- Assumes nothing.
use Rattle.host_book.proofs.bolsterweft_book_line.Goals as goal

pub returns : goal.returns
returns c = rw (c.counted.ensures.0, c.counted.ensures.1) c.line-line.ensures
