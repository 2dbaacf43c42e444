-- `numbers::text::number_in` meets its contract: the loop's invariant is `Valued`.
-- Assumes nothing.
use Rattle.numbers.proofs.Laws.Reader.{Valued}
use Rattle.numbers.proofs.text.number_in.Given as goal

abbrev pub invariant-loop-c : goal.invariant-loop-c
invariant-loop-c l = Valued l.t l.n l.c-index
