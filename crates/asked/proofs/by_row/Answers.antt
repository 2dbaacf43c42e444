-- `by_row` meets its contract.
-- Assumes nothing.
use Rattle.asked.proofs.Laws.Shaped.{at_row}
use Rattle.asked.proofs.by_row.Goals as goal

pub returns-then-row-eq7 : goal.returns-then-row-eq7
returns-then-row-eq7 c = at_row c.if-row-eq7.true c.command.ensures
