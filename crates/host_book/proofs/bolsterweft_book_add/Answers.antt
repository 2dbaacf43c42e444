-- `host_book::bolsterweft_book_add` meets its contract: it is `book::add`, and an unknown kind is refused like any other.
-- Assumes nothing.
use Rattle.host_book.proofs.Laws.Unknown.{add-alike}
use Rattle.host_book.proofs.bolsterweft_book_add.Goals as goal

pub returns : goal.returns
returns c =
    rw (c.counted.ensures.0, c.counted.ensures.1)
    (add-alike c.kind_byte.ensures c.add.ensures)
