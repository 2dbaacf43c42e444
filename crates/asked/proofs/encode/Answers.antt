-- `encode` meets its contract.
-- Assumes nothing.
use native.Mathlib.Omega.{arith}
use Rattle.std.proofs.lemmas.Result.{err_from_is_err_and}
use Rattle.asked.proofs.Laws.Asked.{inside, row_of, ready, asked-encoded, not-encoded}
use Rattle.asked.proofs.encode.Goals as goal

pub returns-in_err-drafted : goal.returns-in_err-drafted
returns-in_err-drafted c =
    let p = err_from_is_err_and c.from_residual.result c.from_residual.ensures.1 in
    rw (p.1, p.2) (not-encoded c.in_err-drafted.ensures)

pub slice_bounds-framed-end : goal.slice_bounds-framed-end
slice_bounds-framed-end c =
    let h = inside c.in_ok-drafted.ensures in omega (arith, h)

pub framed-requires : goal.framed-requires
framed-requires c =
    row_of c.in_ok-drafted.ensures

pub returns : goal.returns
returns c =
    asked-encoded (ready c.in_ok-drafted.ensures) _ c.framed.ensures
