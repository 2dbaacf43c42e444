-- `book::line_mapped` meets its contract: an entry's frame is a part of the book, and its line is the frame's.
-- Assumes nothing.
use Rattle.std.proofs.lemmas.Result.{err_from_is_err_and}
use Rattle.book.proofs.Laws.Entries.{entry_of, told-inside}
use Rattle.book.proofs.Laws.EntryLines.{entry-lined, unlocated-line}
use Rattle.book.proofs.line_mapped.Goals as goal

pub slice_bounds-write_mapped-count : goal.slice_bounds-write_mapped-count
slice_bounds-write_mapped-count c = (told-inside (entry_of c.in_ok-at.ensures)).0

pub slice_bounds-write_mapped-start : goal.slice_bounds-write_mapped-start
slice_bounds-write_mapped-start c = (told-inside (entry_of c.in_ok-at.ensures)).0

pub slice_bounds-write_mapped-end : goal.slice_bounds-write_mapped-end
slice_bounds-write_mapped-end c = (told-inside (entry_of c.in_ok-at.ensures)).1

pub returns : goal.returns
returns c =
    entry-lined c.in_ok-at.ensures c.write_mapped.result c.write_mapped.ensures

pub returns-in_err-at : goal.returns-in_err-at
returns-in_err-at c =
    let p = err_from_is_err_and c.from_residual.result c.from_residual.ensures.1 in rw (p.1, p.2) (unlocated-line _ c.args.room.now c.in_err-at.ensures)
