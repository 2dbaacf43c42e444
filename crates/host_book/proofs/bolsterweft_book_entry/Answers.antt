-- `host_book::bolsterweft_book_entry` meets its contract: it is `book::entry`, case by case.
-- Assumes nothing.
use Rattle.book.proofs.Laws.Entries.{entry_of, told-inside}
use Rattle.host.proofs.Laws.Spans.{spans}
use Rattle.host_book.proofs.bolsterweft_book_entry.Goals as goal

pub overflow_sub-result : goal.overflow_sub-result
overflow_sub-result c = (told-inside (entry_of c.in-Ok.ensures)).0

pub returns-in-Ok : goal.returns-in-Ok
returns-in-Ok c = rw (spans (told-inside (entry_of c.in-Ok.ensures)).0) c.in-Ok.ensures

pub returns-in-Err : goal.returns-in-Err
returns-in-Err c = rw c.refusal_number.ensures c.in-Err.ensures
