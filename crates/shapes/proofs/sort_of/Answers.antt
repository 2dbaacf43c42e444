-- `sort_of` meets its contract.
-- Assumes nothing.
use mathlib.Core.Path.{refl}
use Rattle.shapes.specs.Paper.Members.{sorts}
use Rattle.shapes.proofs.Laws.Rows.{wired-row, no-members}
use Rattle.shapes.proofs.Laws.Picked.{sort-as}
use Rattle.shapes.proofs.sort_of.Goals as goal

pub returns-then-row-le23 : goal.returns-then-row-le23
returns-then-row-le23 c = (sort-as (wired-row _ c.if-row-le18.false c.if-row-le23.true) c.homiq.ensures).is

pub returns : goal.returns
unfolding sorts
returns c = (sort-as {i = _} (no-members _ c.if-row-le23.false) (record { is = refl })).is
