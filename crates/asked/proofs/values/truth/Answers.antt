-- `values::truth` meets its contract.
-- Assumes nothing.
use mathlib.Core.Bool.{true, false}
use Rattle.digits.proofs.Laws.Tests.{told, untold}
use Rattle.asked.proofs.Laws.Values.{is-truth, no_truth}
use Rattle.asked.proofs.values.truth.Goals as goal

pub returns-then-same : goal.returns-then-same
returns-then-same c = is-truth true (told c.same.ensures c.if-same.true)

pub returns-then-same-2 : goal.returns-then-same-2
returns-then-same-2 c = is-truth false (told c.same-2.ensures c.if-same-2.true)

pub returns : goal.returns
returns c =
    no_truth (untold c.same.ensures c.if-same.false) (untold c.same-2.ensures c.if-same-2.false)
