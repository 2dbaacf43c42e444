-- `host_book::bolsterweft_book_list_with` meets its contract: it is `book::list_mapped`.
-- Assumes nothing.
use Rattle.host_book.proofs.bolsterweft_book_list_with.Goals as goal

pub returns : goal.returns
returns c = rw (c.counted.ensures.0, c.counted.ensures.1) c.list_mapped-all_by_map.ensures
