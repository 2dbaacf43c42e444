-- `homiq::type_letter` meets its contract.
-- Assumes nothing.
use Rattle.std.proofs.lemmas.Result.{err_from_is_err_and}
use Rattle.asked.proofs.Laws.Fields.{letter-read, unlettered}
use Rattle.asked.proofs.homiq.type_letter.Goals as goal

pub returns-in_err-len : goal.returns-in_err-len
returns-in_err-len c =
    let p = err_from_is_err_and c.from_residual.result c.from_residual.ensures.1 in
    rw (p.1, p.2) (unlettered c.in_err-len.ensures.reads)

pub returns : goal.returns
returns c =
    letter-read c.chars.new.room c.in_ok-len.len c.in_ok-len.ensures.reads c.in_ok-len.ensures.len_in_bounds.0 c.in_ok-len.ensures.len_in_bounds.1 c.typed.ensures
