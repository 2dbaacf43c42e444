-- `json_values::truth` meets its contract, by the test.
-- Assumes nothing.
use mathlib.Core.Path.{ap, sym}
use Rattle.puts.proofs.Laws.Puts.{puts-as}
use Rattle.json_values.specs.Paper.Json.{truth}
use Rattle.json_values.proofs.truth.Goals as goal

pub returns-then-b : goal.returns-then-b
returns-then-b c = puts-as (ap truth (sym c.if-b.true)) c.bytes.ensures

pub returns : goal.returns
returns c = puts-as (ap truth (sym c.if-b.false)) c.bytes-2.ensures
