-- `rows::many` meets its contract.
-- Assumes nothing.
use Rattle.shapes.proofs.Laws.Rows.{past}
use Rattle.asked.proofs.Laws.Named.{six-members}
use Rattle.asked.proofs.rows.many.Goals as goal

pub returns-in_default : goal.returns-in_default
returns-in_default c = six-members _ (past 1 18 c.requires.0 c.in_default.in_default-own.rest) c.requires.1
