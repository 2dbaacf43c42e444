-- `frames::payload` meets its contract: the part that the search found.
-- Assumes nothing.
use mathlib.Core.Path.{refl}
use Rattle.frames.specs.Paper.Search.{payload_ends}
use Rattle.frames.proofs.Laws.Hands.{payload-there, hands-found, hands-nothing}
use Rattle.frames.proofs.payload.Goals as goal

pub slice_bounds-result-count : goal.slice_bounds-result-count
slice_bounds-result-count c = (payload-there c.search.ensures c.in-Ok.is).0

pub slice_bounds-result-start : goal.slice_bounds-result-start
slice_bounds-result-start c = (payload-there c.search.ensures c.in-Ok.is).0

pub slice_bounds-result-end : goal.slice_bounds-result-end
slice_bounds-result-end c = (payload-there c.search.ensures c.in-Ok.is).1

pub returns-in-Ok : goal.returns-in-Ok
returns-in-Ok c = hands-found c.search.ensures payload_ends c.in-Ok.is (record { bytes = refl; place = refl })

pub returns-in-Err : goal.returns-in-Err
returns-in-Err c = hands-nothing c.search.ensures payload_ends c.in-Err.is c.nothing.ensures
