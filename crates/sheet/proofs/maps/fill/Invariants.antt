-- `sheet::maps::fill` meets its contract. The loop's invariant: what is left, stored from here on, makes the whole.
-- Assumes nothing.
use lib.ListN.{length}
use Rattle.sheet.specs.Work.Maps.{Filling}
use Rattle.sheet.proofs.maps.fill.Given as goal

abbrev pub invariant-loop-line : goal.invariant-loop-line
invariant-loop-line l = Filling l.text l.left l.initial.map l.map l.least l.number

abbrev pub decreases-loop-line : goal.decreases-loop-line
decreases-loop-line l = length l.left
