-- `homiq::by_row` meets its contract.
-- Assumes nothing.
use mathlib.Core.Path.{refl}
use Rattle.std.proofs.lemmas.Result.{err_from_is_err_and}
use Rattle.asked.proofs.Laws.Homiqs.{homiq-draft, no-homiq}
use Rattle.asked.proofs.homiq.by_row.Goals as goal

pub returns-in_err-len : goal.returns-in_err-len
returns-in_err-len c =
    let p = err_from_is_err_and c.from_residual.result c.from_residual.ensures.1 in
    rw (p.1, p.2) (no-homiq _ c.message-homiq.ensures c.in_err-len.ensures)

pub returns : goal.returns
returns c =
    homiq-draft _ c.message-homiq.ensures c.in_ok-len.ensures refl refl
