-- `nibe::by_row` meets its contract.
-- Assumes nothing.
use native.Mathlib.Nat.{le_antisymm}
use Rattle.asked.proofs.Laws.Named.{above}
use Rattle.asked.proofs.Laws.Shaped.{at_row, without}
use Rattle.asked.proofs.nibe.by_row.Goals as goal

pub returns-in-14 : goal.returns-in-14
returns-in-14 c = at_row c.in-14.is (without _ c.ask.ensures)

pub returns-in-15 : goal.returns-in-15
returns-in-15 c = at_row c.in-15.is (without _ c.reply.ensures)

pub returns-in-16 : goal.returns-in-16
returns-in-16 c = at_row c.in-16.is (without _ c.put.ensures)

pub returns-in-17 : goal.returns-in-17
returns-in-17 c = at_row c.in-17.is (without _ c.done.ensures)

pub returns-in_default : goal.returns-in_default
returns-in_default c = at_row (le_antisymm c.requires.1 (above 17 (above 16 (above 15 (above 14 c.requires.0 c.in_default.in_default-own.rest.0.0.0.1) c.in_default.in_default-own.rest.0.0.1) c.in_default.in_default-own.rest.0.1) c.in_default.in_default-own.rest.1)) c.other.ensures
