-- `lines::write_mapped` meets its contract: the payload lies inside the frame, and the line is the frame's.
-- Assumes nothing.
use native.Mathlib.Omega.{arith}
use Rattle.std.proofs.lemmas.Result.{err_from_is_err_and}
use Rattle.lines.proofs.Laws.Types.{in-types}
use Rattle.lines.proofs.Laws.Write.{inside-frame, put-bounded, written, not_written}
use Rattle.lines.proofs.write_mapped.Goals as goal

pub slice_bounds-placed-count : goal.slice_bounds-placed-count
slice_bounds-placed-count c = (inside-frame c.in_ok-message.ensures).0

pub slice_bounds-placed-start : goal.slice_bounds-placed-start
slice_bounds-placed-start c = (inside-frame c.in_ok-message.ensures).0

pub slice_bounds-placed-end : goal.slice_bounds-placed-end
slice_bounds-placed-end c = (inside-frame c.in_ok-message.ensures).1

pub placed-requires : goal.placed-requires
placed-requires c = put-bounded c.in_ok-message.ensures (in-types c.args.map.now) c.args.at (omega (arith, c.well_formed)) (omega arith)

pub returns : goal.returns
returns c = written c.in_ok-message.ensures c.args.at c.args.room.now _ c.placed.result c.placed.ensures

pub returns-in_err-message : goal.returns-in_err-message
returns-in_err-message c =
    let p = err_from_is_err_and c.from_residual.result c.from_residual.ensures.1 in rw (p.1, p.2) (not_written _ c.args.at c.args.room.now c.in_err-message.ensures)
