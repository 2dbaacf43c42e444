-- `layouts::homiq::figures` meets its contract: what is left from the index on completes the run and its number, and four figures fit.
-- Assumes nothing.
use Rattle.layouts.proofs.Laws.HomiqFields.{Figuring}
use Rattle.layouts.proofs.homiq.figures.Given as goal

abbrev pub invariant-loop-i : goal.invariant-loop-i
invariant-loop-i l = Figuring l.s l.v l.i
