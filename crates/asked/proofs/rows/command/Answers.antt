-- `rows::command` meets its contract.
-- Assumes nothing.
use mathlib.Core.Path.{sym, ap}
use Rattle.digits.proofs.Laws.Tests.{told, untold}
use Rattle.asked.specs.Work.Rows.{same_text, row_in, row_named}
use Rattle.asked.proofs.Laws.Named.{text-differs}
use Rattle.asked.proofs.rows.command.Goals as goal

pub returns-then-same : goal.returns-then-same
unfolding same_text row_in row_named
returns-then-same c = ap (row_named 2) (sym (told c.same.ensures c.if-same.true))

pub returns : goal.returns
unfolding row_in row_named
returns c = simp (text-differs _ _ (untold c.same.ensures c.if-same.false))
