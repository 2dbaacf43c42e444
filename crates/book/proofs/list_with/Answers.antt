-- `book::list_with` meets its contract: a book that is opened is listed, with a map that is lent.
-- Assumes nothing.
use Rattle.std.proofs.lemmas.Result.{err_from_is_err_and}
use Rattle.book.proofs.Laws.ByText.{unopened-by-text}
use Rattle.book.proofs.Laws.Entries.{noting-of}
use Rattle.book.proofs.list_with.Goals as goal

pub list_opened-requires : goal.list_opened-requires
list_opened-requires c = noting-of c.in_ok-count.ensures

pub returns-in_err-count : goal.returns-in_err-count
returns-in_err-count c =
    let p = err_from_is_err_and c.from_residual.result c.from_residual.ensures.1 in rw (p.1, p.2) (unopened-by-text _ c.in_err-count.ensures)
