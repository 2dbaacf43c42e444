-- `puts::hex` meets its contract: all at once where the room has room for them.
-- Assumes nothing.
use native.Mathlib.Omega.{arith}
use Rattle.puts.proofs.Laws.Spelt.{put-hex}
use Rattle.puts.proofs.hex.Goals as goal

pub returns-then-n-room : goal.returns-then-n-room
returns-then-n-room c =
    rw c.spell.ensures (put-hex c.args.room.now c.args.s.now c.args.at (omega (arith, c.well_formed)) (omega (arith, c.if-n-room.true, c.if-at-room.true)))
