-- `frames::frame` meets its contract: the part that the search found.
-- Assumes nothing.
use mathlib.Core.Path.{refl}
use native.Mathlib.Omega.{arith}
use Rattle.frames.specs.Paper.Search.{frame_ends}
use Rattle.frames.proofs.Laws.Hands.{found_inside, hands-found, hands-nothing}
use Rattle.frames.proofs.frame.Goals as goal

pub overflow_add-result : goal.overflow_add-result
overflow_add-result c = omega (arith, found_inside c.search.ensures c.in-Ok.is, c.well_formed)

pub slice_bounds-result-end : goal.slice_bounds-result-end
slice_bounds-result-end c = found_inside c.search.ensures c.in-Ok.is

pub returns-in-Ok : goal.returns-in-Ok
returns-in-Ok c = hands-found c.search.ensures frame_ends c.in-Ok.is (record { bytes = refl; place = refl })

pub returns-in-Err : goal.returns-in-Err
returns-in-Err c = hands-nothing c.search.ensures frame_ends c.in-Err.is c.nothing.ensures
