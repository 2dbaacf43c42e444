-- `host_book::bolsterweft_book_line_with` meets its contract: it is `book::line_mapped`.
-- Assumes nothing.
use Rattle.host_book.proofs.bolsterweft_book_line_with.Goals as goal

pub returns : goal.returns
returns c = rw (c.counted.ensures.0, c.counted.ensures.1) c.line_mapped-by_map.ensures
