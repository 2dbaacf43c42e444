-- `lines::after_measuring` meets its contract: the size that is measured is the line's.
-- Assumes nothing.
use Rattle.std.proofs.lemmas.Result.{err_from_is_err_and}
use Rattle.lines.proofs.Laws.Next.{measured-short, measured-put, none-next}
use Rattle.lines.proofs.after_measuring.Goals as goal

pub returns-then-left-size : goal.returns-then-left-size
returns-then-left-size c = measured-short c.in_ok-start.ensures c.left.ensures c.if-left-size.true

pub returns : goal.returns
returns c =
    measured-put c.in_ok-start.ensures c.left.ensures c.if-left-size.false c.attempt.result c.attempt.ensures

pub returns-in_err-start : goal.returns-in_err-start
returns-in_err-start c =
    let p = err_from_is_err_and c.from_residual.result c.from_residual.ensures.1 in rw (p.1, p.2) (none-next _ c.in_err-start.ensures)
