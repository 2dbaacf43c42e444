-- `host_book::bolsterweft_book_list` meets its contract: it is `book::list`.
-- Assumes nothing.
use Rattle.host_book.proofs.bolsterweft_book_list.Goals as goal

pub returns : goal.returns
returns c = rw (c.counted.ensures.0, c.counted.ensures.1) c.list-lines.ensures
