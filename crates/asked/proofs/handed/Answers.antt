-- `handed` meets its contract.
-- Assumes nothing.
use Rattle.std.proofs.lemmas.Result.{err_from_is_err_and}
use Rattle.asked.proofs.Laws.Answered.{hands, hands-nothing}
use Rattle.asked.proofs.handed.Goals as goal

pub returns-in_err-n : goal.returns-in_err-n
returns-in_err-n c =
    let p = err_from_is_err_and c.from_residual.result c.from_residual.ensures.1 in
    rw (p.1, p.2) (hands-nothing c.front.ensures c.in_err-n.was)

pub returns : goal.returns
returns c =
    hands c.front.ensures c.in_ok-n.was c.kind.ensures
