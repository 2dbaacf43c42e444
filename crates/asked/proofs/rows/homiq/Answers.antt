-- `rows::homiq` meets its contract.
-- Assumes nothing.
use mathlib.Core.Path.{sym, ap}
use Rattle.digits.proofs.Laws.Tests.{told, untold}
use Rattle.asked.specs.Work.Rows.{same_text, row_in, row_named}
use Rattle.asked.proofs.Laws.Named.{text-differs}
use Rattle.asked.proofs.rows.homiq.Goals as goal

pub returns-then-same : goal.returns-then-same
unfolding same_text row_in row_named
returns-then-same c = ap (row_named 5) (sym (told c.same.ensures c.if-same.true))

pub returns-then-same-2 : goal.returns-then-same-2
unfolding same_text row_in row_named
returns-then-same-2 c = ap (row_named 5) (sym (told c.same-2.ensures c.if-same-2.true))

pub returns-then-same-3 : goal.returns-then-same-3
unfolding same_text row_in row_named
returns-then-same-3 c = ap (row_named 5) (sym (told c.same-3.ensures c.if-same-3.true))

pub returns-then-same-4 : goal.returns-then-same-4
unfolding same_text row_in row_named
returns-then-same-4 c = ap (row_named 5) (sym (told c.same-4.ensures c.if-same-4.true))

pub returns-then-same-5 : goal.returns-then-same-5
unfolding same_text row_in row_named
returns-then-same-5 c = ap (row_named 5) (sym (told c.same-5.ensures c.if-same-5.true))

pub returns : goal.returns
unfolding row_in row_named
returns c =
    simp (
      text-differs _ _ (untold c.same.ensures c.if-same.false),
      text-differs _ _ (untold c.same-2.ensures c.if-same-2.false),
      text-differs _ _ (untold c.same-3.ensures c.if-same-3.false),
      text-differs _ _ (untold c.same-4.ensures c.if-same-4.false),
      text-differs _ _ (untold c.same-5.ensures c.if-same-5.false),
    )
