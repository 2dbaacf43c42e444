-- `book::entry` meets its contract: the book is opened, and the number is below its count.
-- Assumes nothing.
use native.Mathlib.Omega.{arith}
use Rattle.std.proofs.lemmas.Result.{err_from_is_err_and}
use Rattle.book.proofs.Laws.Entries.{opened-counts, no-entry-told, unopened-told}
use Rattle.book.proofs.entry.Goals as goal

pub returns-then-count-number : goal.returns-then-count-number
returns-then-count-number c =
    no-entry-told (opened-counts c.in_ok-count.ensures) (omega (arith, c.if-count-number.true))

pub locate-requires : goal.locate-requires
locate-requires c = record { counts = opened-counts c.in_ok-count.ensures; number_lt_count = omega (arith, c.if-count-number.false) }

pub returns-in_err-count : goal.returns-in_err-count
returns-in_err-count c =
    let p = err_from_is_err_and c.from_residual.result c.from_residual.ensures.1 in rw (p.1, p.2) (unopened-told _ c.in_err-count.ensures)
