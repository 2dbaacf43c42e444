-- `values::value` meets its contract.
-- Assumes nothing.
use native.Mathlib.Omega.{arith}
use Rattle.asked.proofs.Laws.Values.{value-at, no-value-at}
use Rattle.asked.proofs.values.value.Goals as goal

pub slice_bounds-result-count : goal.slice_bounds-result-count
slice_bounds-result-count c =
    (value-at c.in-Ok.ensures).order

pub slice_bounds-result-start : goal.slice_bounds-result-start
slice_bounds-result-start c =
    let t = value-at c.in-Ok.ensures in omega (arith, t.order, t.inside)

pub slice_bounds-result-end : goal.slice_bounds-result-end
slice_bounds-result-end c =
    let t = value-at c.in-Ok.ensures in omega (arith, t.inside)

pub returns-in-Ok : goal.returns-in-Ok
returns-in-Ok c =
    (value-at c.in-Ok.ensures).is

pub returns-in-Err : goal.returns-in-Err
returns-in-Err c =
    no-value-at _ c.in-Err.ensures
