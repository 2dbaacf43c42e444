-- `lines::homiq::behind` meets its contract: the first field ends at the `;`, or at the end.
-- Assumes nothing.
use native.Mathlib.Omega.{arith}
use Rattle.lines.proofs.Laws.Fields.{field-le, rest-behind, nothing-behind}
use Rattle.lines.proofs.homiq.behind.Goals as goal

pub returns-then-n-s : goal.returns-then-n-s
returns-then-n-s c = rest-behind c.args.s.now c.args.n c.requires

pub slice_bounds-result-count-2 : goal.slice_bounds-result-count-2
slice_bounds-result-count-2 c = omega (arith, c.requires, field-le c.args.s.now)

pub slice_bounds-result-start-2 : goal.slice_bounds-result-start-2
slice_bounds-result-start-2 c = omega (arith, c.requires, field-le c.args.s.now)

pub returns : goal.returns
returns c = nothing-behind c.args.s.now c.args.n c.requires c.if-n-s.false
