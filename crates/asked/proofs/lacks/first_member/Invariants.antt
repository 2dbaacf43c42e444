-- `lacks::first_member` meets its contract.
-- Assumes nothing.
use Rattle.shapes.specs.Paper.Shapes.{shape_at}
use Rattle.asked.proofs.Laws.Lacking.{Passed}
use Rattle.asked.proofs.lacks.first_member.Given as goal

abbrev pub invariant-loop-i : goal.invariant-loop-i
invariant-loop-i l = Passed l.text (shape_at l.row).members l.i
