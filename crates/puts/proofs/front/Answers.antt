-- `puts::front` meets its contract: all bytes are put where there is room for them, and else none.
-- Assumes nothing.
use native.Mathlib.Omega.{arith}
use Rattle.puts.proofs.Laws.Wrote.{within-bytes, all-written, none_written}
use Rattle.puts.proofs.front.Goals as goal

pub slice_bounds-bytes-end : goal.slice_bounds-bytes-end
slice_bounds-bytes-end c = omega (arith, within-bytes c.args.s.now c.args.room.now c.all_or_none-n.ensures)

pub returns-then-n-s : goal.returns-then-n-s
returns-then-n-s c = none_written c.args.s.now c.args.room.now c.all_or_none-n.ensures c.bytes.ensures c.if-n-s.true

pub returns : goal.returns
returns c = all-written c.args.s.now c.args.room.now c.all_or_none-n.ensures c.bytes.ensures c.if-n-s.false
