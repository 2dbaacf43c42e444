-- `book::list_mapped` meets its contract: a book that is opened is listed, by the places that opening has noted.
-- Assumes nothing.
use Rattle.std.proofs.lemmas.Result.{err_from_is_err_and}
use Rattle.book.proofs.Laws.Entries.{noting-of}
use Rattle.book.proofs.Laws.Listed.{unopened-list}
use Rattle.book.proofs.list_mapped.Goals as goal

pub write-requires : goal.write-requires
write-requires c = noting-of c.in_ok-count.ensures

pub returns-in_err-count : goal.returns-in_err-count
returns-in_err-count c =
    let p = err_from_is_err_and c.from_residual.result c.from_residual.ensures.1 in rw (p.1, p.2) (unopened-list _ c.args.room.now c.in_err-count.ensures)
