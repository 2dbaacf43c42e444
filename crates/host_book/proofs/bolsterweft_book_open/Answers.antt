-- `host_book::bolsterweft_book_open` meets its contract: it is `book::open`, case by case.
-- Assumes nothing.
use Rattle.host_book.proofs.bolsterweft_book_open.Goals as goal

pub returns-in-Ok : goal.returns-in-Ok
returns-in-Ok c = c.in-Ok.ensures

pub returns-in-Err : goal.returns-in-Err
returns-in-Err c = rw c.refusal_number.ensures c.in-Err.ensures
