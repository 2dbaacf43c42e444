-- `lines::next` meets its contract: a line that might not fit is measured first.
-- Assumes nothing.
use native.Mathlib.Omega.{arith}
use mathlib.Core.Path.{refl}
use Rattle.std.proofs.lemmas.Result.{err_from_is_err_and}
use Rattle.lines.proofs.Laws.Next.{next-tried, next-measured, next-refused}
use Rattle.lines.proofs.next.Goals as goal

pub returns-in-At : goal.returns-in-At
returns-in-At c = next-tried c.in_ok-listed.field-0 c.in_ok-listed.ensures c.in-At.is refl (omega (arith, c.well_formed))

pub returns-in-Unsure : goal.returns-in-Unsure
returns-in-Unsure c =
    next-measured c.in_ok-listed.field-0 c.in_ok-listed.ensures c.in-Unsure.is c.after_measuring.result c.after_measuring.ensures

pub returns-in_err-listed : goal.returns-in_err-listed
returns-in_err-listed c =
    let p = err_from_is_err_and c.from_residual.result c.from_residual.ensures.1 in rw (p.1, p.2) (next-refused c.in_err-listed.ensures)
