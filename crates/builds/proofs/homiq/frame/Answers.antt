-- `builds::homiq::frame` meets its contract: what the payload is laid out as is tried, and is a frame only where the payload is one.
-- Assumes nothing.
use mathlib.Core.Path.{sym, ap, ◌∙◌}
use Rattle.layouts.specs.Paper.Judged.{frame_in}
use Rattle.builds.proofs.Laws.Homiq.{around-fits, too_long, tried-inside, none-found, one-found, no-frame, a-frame}
use Rattle.builds.proofs.homiq.frame.Goals as goal

pub returns-then-payload-gt-LONGEST : goal.returns-then-payload-gt-LONGEST
returns-then-payload-gt-LONGEST c = too_long c.args.payload.now c.args.room.now c.if-payload-gt-LONGEST.true

pub slice_bounds-frame-end : goal.slice_bounds-frame-end
slice_bounds-frame-end c =
    let fits = around-fits c.args.payload.now c.if-payload-gt-LONGEST.false in
    tried-inside c.args.payload.now c.args.room.now c.put_frame-n.ensures fits

pub returns-in_default : goal.returns-in_default
returns-in_default c =
    let fits = around-fits c.args.payload.now c.if-payload-gt-LONGEST.false in
    no-frame c.args.payload.now c.args.room.now c.put_frame-n.ensures fits c.frame.ensures.0 (λ v e l. none-found (sym (ap frame_in c.in_default.is) ∙ e))

pub returns-then-found-n : goal.returns-then-found-n
returns-then-found-n c =
    let fits = around-fits c.args.payload.now c.if-payload-gt-LONGEST.false in
    no-frame c.args.payload.now c.args.room.now c.put_frame-n.ensures fits c.frame.ensures.0 (λ v e l. c.if-found-n.true (one-found (sym (ap frame_in c.in-Ok.is) ∙ e) ∙ l))

pub slice_bounds-front-end : goal.slice_bounds-front-end
slice_bounds-front-end c =
    let fits = around-fits c.args.payload.now c.if-payload-gt-LONGEST.false in
    tried-inside c.args.payload.now c.args.room.now c.put_frame-n.ensures fits

pub returns : goal.returns
returns c =
    let fits = around-fits c.args.payload.now c.if-payload-gt-LONGEST.false in
    a-frame c.args.payload.now c.args.room.now c.put_frame-n.ensures fits c.frame.ensures.0 c.front.result (ap frame_in c.in-Ok.is) c.if-found-n.false c.front.ensures
