-- `lacks::has` meets its contract.
-- Assumes nothing.
use mathlib.Core.Path.{◌∙◌}
use native.Mathlib.Omega.{arith}
use Rattle.asked.proofs.Laws.Sorted.{its-sort, few-decimals, as_said, has_of, no-value-of}
use Rattle.asked.proofs.Laws.Values.{value-at, no-value-at}
use Rattle.asked.proofs.lacks.has.Goals as goal

pub slice_bounds-spells-count : goal.slice_bounds-spells-count
slice_bounds-spells-count c = (value-at c.in-Ok.ensures).order

pub slice_bounds-spells-start : goal.slice_bounds-spells-start
slice_bounds-spells-start c = let t = value-at c.in-Ok.ensures in omega (arith, t.order, t.inside)

pub slice_bounds-spells-end : goal.slice_bounds-spells-end
slice_bounds-spells-end c = let t = value-at c.in-Ok.ensures in omega (arith, t.inside)

pub spells-requires : goal.spells-requires
spells-requires c = rw c.sort_of.ensures (few-decimals _ _ c.requires.0)

pub returns : goal.returns
returns c = has_of (value-at c.in-Ok.ensures).is (as_said _ _ (c.sort_of.ensures ∙ its-sort _ _ c.requires.1) c.spells.ensures)

pub returns-in_default : goal.returns-in_default
returns-in_default c = no-value-of (no-value-at _ c.in_default.ensures)
