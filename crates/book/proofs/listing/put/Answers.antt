-- `book::listing::put` meets its contract: what is left, put from here on, completes the lines of the book.
-- Assumes nothing.
use native.Mathlib.Omega.{arith}
use Rattle.puts.proofs.Laws.Puts.{put-length}
use Rattle.book.proofs.Laws.Entries.{counts-trailed}
use Rattle.book.proofs.Laws.Turns.{started, head_in, frame-in, tested-so, turned, ended}
use Rattle.book.proofs.listing.put.Goals as goal

pub loop-i-init : goal.loop-i-init
loop-i-init c = started c.args.room.now (omega (arith, c.well_formed)) c.requires

pub head_at-head-requires : goal.head_at-head-requires
head_at-head-requires c =
    let small = (counts-trailed c.requires.counts).small in
    record { at_in_bounds = head_in c.loop-i.invariant small c.loop-i-test.true; book_len_bound = small }

pub slice_bounds-put_line-count : goal.slice_bounds-put_line-count
slice_bounds-put_line-count c =
    let small = (counts-trailed c.requires.counts).small in
    (frame-in c.loop-i.invariant small c.loop-i-test.true c.head_at-head.ensures).0

pub slice_bounds-put_line-start : goal.slice_bounds-put_line-start
slice_bounds-put_line-start c =
    let small = (counts-trailed c.requires.counts).small in
    (frame-in c.loop-i.invariant small c.loop-i-test.true c.head_at-head.ensures).0

pub slice_bounds-put_line-end : goal.slice_bounds-put_line-end
slice_bounds-put_line-end c =
    let small = (counts-trailed c.requires.counts).small in
    (frame-in c.loop-i.invariant small c.loop-i-test.true c.head_at-head.ensures).1

pub put_line-next-requires : goal.put_line-next-requires
put_line-next-requires c =
    let small = (counts-trailed c.requires.counts).small in
    tested-so c.loop-i.invariant small c.loop-i-test.true c.head_at-head.ensures

pub loop-i-preserved : goal.loop-i-preserved
loop-i-preserved c =
    let small = (counts-trailed c.requires.counts).small in
    turned c.loop-i.invariant small c.loop-i-test.true c.head_at-head.ensures c.put_line-next.ensures

pub shape_of-room : goal.shape_of-room
shape_of-room c = put-length c.loop-i.invariant.put

pub returns : goal.returns
returns c = ended c.loop-i.invariant (omega arith)
