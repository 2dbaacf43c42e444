-- `lines::attempt` meets its contract: the payload of what is found lies inside the capture, and the line is the frame's.
-- Assumes nothing.
use mathlib.Core.Bool.{not}
use mathlib.Core.Path.{ap}
use native.Mathlib.Omega.{arith}
use Rattle.std.proofs.lemmas.Result.{err_from_is_err_and}
use Rattle.lines.proofs.Laws.Next.{payload-in, tried-put, tried-unsure, tried-refused}
use Rattle.lines.proofs.Laws.Types.{in-types}
use Rattle.lines.proofs.attempt.Goals as goal

pub overflow_sub-end : goal.overflow_sub-end
overflow_sub-end c = (payload-in c.in_ok-start.ensures).0

pub returns-then-not-surely : goal.returns-then-not-surely
returns-then-not-surely c =
    tried-unsure c.in_ok-start.ensures c.surely.result c.surely.ensures (ap not c.if-not-surely.true)

pub slice_bounds-line-count : goal.slice_bounds-line-count
slice_bounds-line-count c = (payload-in c.in_ok-start.ensures).0

pub slice_bounds-line-start : goal.slice_bounds-line-start
slice_bounds-line-start c = (payload-in c.in_ok-start.ensures).0

pub slice_bounds-line-end : goal.slice_bounds-line-end
slice_bounds-line-end c = (payload-in c.in_ok-start.ensures).1

pub returns : goal.returns
returns c =
    tried-put c.in_ok-start.ensures (in-types c.args.map.now) (omega (arith, c.well_formed)) c.surely.result c.surely.ensures (ap not c.if-not-surely.false) c.left.ensures c.line.ensures

pub returns-in_err-start : goal.returns-in_err-start
returns-in_err-start c =
    let p = err_from_is_err_and c.from_residual.result c.from_residual.ensures.1 in rw (p.1, p.2) (tried-refused _ c.in_err-start.ensures)
