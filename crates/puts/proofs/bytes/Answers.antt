-- `puts::bytes` meets its contract: all at once where the room has room for them.
-- Assumes nothing.
use native.Mathlib.Omega.{arith}
use Rattle.puts.proofs.Laws.Puts.{put_all}
use Rattle.puts.proofs.bytes.Goals as goal

pub copy-requires : goal.copy-requires
copy-requires c = omega (arith, c.if-n-room.true, c.if-at-room.true)

pub overflow_add-result : goal.overflow_add-result
overflow_add-result c =
    omega (arith, c.if-n-room.true, c.if-at-room.true, c.well_formed)

pub returns-then-n-room : goal.returns-then-n-room
returns-then-n-room c =
    rw c.copy.ensures (put_all c.args.room.now c.args.s.now c.args.at (omega (arith, c.well_formed)) (omega (arith, c.if-n-room.true, c.if-at-room.true)))
