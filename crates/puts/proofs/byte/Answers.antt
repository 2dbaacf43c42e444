-- `puts::byte` meets its contract: there is a place for the byte, or there is none.
-- Assumes nothing.
use native.Mathlib.Omega.{arith}
use Rattle.puts.proofs.Laws.Puts.{within, beyond}
use Rattle.puts.proofs.byte.Goals as goal

pub returns-then-at-room : goal.returns-then-at-room
returns-then-at-room c = within c.args.room.now c.args.at c.args.b (omega (arith, c.well_formed)) c.if-at-room.true

pub returns-then-at-lt18446744073709551615 : goal.returns-then-at-lt18446744073709551615
returns-then-at-lt18446744073709551615 c = beyond c.args.room.now c.args.at c.args.b _ (omega (arith, c.well_formed)) c.if-at-room.false (omega arith)

pub returns : goal.returns
returns c = beyond c.args.room.now c.args.at c.args.b _ (omega (arith, c.well_formed)) c.if-at-room.false (omega arith)
