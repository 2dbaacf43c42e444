-- `name_of` meets its contract.
-- Assumes nothing.
use native.Mathlib.Omega.{arith}
use Rattle.shapes.specs.Paper.Members.{names}
use Rattle.shapes.proofs.Laws.Rows.{wired-row, no-members}
use Rattle.shapes.proofs.Laws.Picked.{name-as, unnamed}
use Rattle.shapes.proofs.name_of.Goals as goal

pub returns-then-row-le23 : goal.returns-then-row-le23
returns-then-row-le23 c = name-as (wired-row _ c.if-row-le18.false c.if-row-le23.true) c.homiq.ensures

pub returns : goal.returns
unfolding names
returns c = name-as (no-members _ c.if-row-le23.false) (unnamed (omega arith))
