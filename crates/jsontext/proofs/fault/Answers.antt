-- `fault` meets its contract.
-- Assumes nothing.
use native.Mathlib.Omega.{arith}
use Rattle.jsontext.specs.Paper.Faults.{none, long}
use Rattle.jsontext.proofs.Laws.Once.{told-true, told-false}
use Rattle.jsontext.proofs.fault.Goals as goal

pub returns-then-accepts : goal.returns-then-accepts
returns-then-accepts c = none (told-true c.accepts.ensures c.if-accepts.true)

pub in_text-requires : goal.in_text-requires
in_text-requires c = (c.if-text-le-MOST_BYTES.true, told-false c.accepts.ensures c.if-accepts.false)

pub returns : goal.returns
returns c = long (omega arith)
