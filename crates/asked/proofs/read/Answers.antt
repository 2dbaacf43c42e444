-- `read` meets its contract.
-- Assumes nothing.
use native.Mathlib.Omega.{arith}
use Rattle.std.proofs.lemmas.Result.{err_from_is_err_and}
use Rattle.asked.proofs.Laws.Asked.{inside, row_of, ready, asked-read, not-read}
use Rattle.asked.proofs.read.Goals as goal

pub returns-in_err-meant : goal.returns-in_err-meant
returns-in_err-meant c =
    let p = err_from_is_err_and c.from_residual.result c.from_residual.ensures.1 in
    rw (p.1, p.2) (not-read c.in_err-meant.ensures)

pub slice_bounds-beside-end : goal.slice_bounds-beside-end
slice_bounds-beside-end c =
    let h = inside c.in_ok-meant.ensures in omega (arith, h)

pub beside-requires : goal.beside-requires
beside-requires c =
    row_of c.in_ok-meant.ensures

pub returns : goal.returns
returns c =
    asked-read (ready c.in_ok-meant.ensures) _ c.beside.ensures
