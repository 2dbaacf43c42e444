-- `digits::decimal::guessed` meets its contract: what is left of the characters makes the whole of what has been made.
-- Assumes nothing.
use Rattle.digits.proofs.Laws.Decimal.{Guessing}
use Rattle.digits.proofs.decimal.guessed.Given as goal

abbrev pub invariant-loop-c : goal.invariant-loop-c
invariant-loop-c l = Guessing l.s l.n l.c-index
