-- `sheet::reader::comma` meets its contract. The loop's invariant: what is left says where the comma is.
-- Assumes nothing.
use Rattle.sheet.proofs.Laws.Cuts.{Looking}
use Rattle.sheet.proofs.reader.comma.Given as goal

abbrev pub invariant-loop-i : goal.invariant-loop-i
invariant-loop-i l = Looking l.s l.i
