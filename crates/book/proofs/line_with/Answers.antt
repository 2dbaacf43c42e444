-- `book::line_with` meets its contract: the line by a sheet of an entry's frame is the entry's.
-- Assumes nothing.
use Rattle.std.proofs.lemmas.Result.{err_from_is_err_and}
use Rattle.book.proofs.Laws.ByText.{entry-lined-by-text, unlocated-by-text}
use Rattle.book.proofs.Laws.Entries.{entry_of, told-inside}
use Rattle.book.proofs.line_with.Goals as goal

pub slice_bounds-write_with-count : goal.slice_bounds-write_with-count
slice_bounds-write_with-count c = (told-inside (entry_of c.in_ok-at.ensures)).0

pub slice_bounds-write_with-start : goal.slice_bounds-write_with-start
slice_bounds-write_with-start c = (told-inside (entry_of c.in_ok-at.ensures)).0

pub slice_bounds-write_with-end : goal.slice_bounds-write_with-end
slice_bounds-write_with-end c = (told-inside (entry_of c.in_ok-at.ensures)).1

pub returns : goal.returns
returns c =
    entry-lined-by-text c.in_ok-at.ensures c.write_with.result c.write_with.ensures

pub returns-in_err-at : goal.returns-in_err-at
returns-in_err-at c =
    let p = err_from_is_err_and c.from_residual.result c.from_residual.ensures.1 in rw (p.1, p.2) (unlocated-by-text _ c.args.room.now c.in_err-at.ensures)
