-- `sheet::reader::number_below` meets its contract. The loop's invariant: the characters passed are the digits of n.
-- Assumes nothing.
use Rattle.sheet.proofs.Laws.Below.{Digits}
use Rattle.sheet.proofs.reader.number_below.Given as goal

abbrev pub invariant-loop-c : goal.invariant-loop-c
invariant-loop-c l = Digits l.s l.n l.c-index
