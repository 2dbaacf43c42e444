-- `nikobus::outputs` meets its contract.
-- Assumes nothing.
use Rattle.std.proofs.lemmas.Result.{err_from_is_err_and}
use mathlib.Core.Path.{sym}
use Rattle.asked.proofs.Laws.Exact.{some-content, no-content}
use Rattle.asked.proofs.nikobus.outputs.Goals as goal

pub returns-in_err-exact : goal.returns-in_err-exact
returns-in_err-exact c =
    let p = err_from_is_err_and c.from_residual.result c.from_residual.ensures.1 in
    rw (p.1, p.2) (no-content _ _ c.hex.ensures.reads c.hex.ensures.len_in_bounds c.exact.ensures c.in_err-exact.was)

pub returns : goal.returns
returns c =
    some-content _ _ c.hex.ensures.reads c.hex.ensures.len_in_bounds c.exact.ensures c.in_ok-exact.was (λ b. sym c.six_of.ensures)
