-- `book::add` meets its contract: a book that is opened is added to.
-- Assumes nothing.
use Rattle.std.proofs.lemmas.Result.{err_from_is_err_and}
use Rattle.book.proofs.Laws.Added.{unopened-add}
use Rattle.book.proofs.Laws.Entries.{opened-counts}
use Rattle.book.proofs.add.Goals as goal

pub write-requires : goal.write-requires
write-requires c = opened-counts c.in_ok-count.ensures

pub returns-in_err-count : goal.returns-in_err-count
returns-in_err-count c =
    let p = err_from_is_err_and c.from_residual.result c.from_residual.ensures.1 in rw (p.1, p.2) (unopened-add _ (record { kind = c.args.kind; frame = c.args.frame.now }) c.args.room.now c.in_err-count.ensures)
