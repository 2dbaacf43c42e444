-- `host::number_calls::bolsterweft_value_read` meets its contract: it is `byte_values::read`, case by case; what is read is a raw number,
-- so the machine keeps it.
-- Assumes nothing.
use mathlib.Core.Path.{refl, sym, subst}
use Rattle.std.specs.Prelude.{Ok}
use mathlib.Core.Bool.{not}
use lib.Dec.{eqb}
use lib.IntN.{ℤ}
use Rattle.digits.proofs.Laws.Refusals.{answered}
use Rattle.numbers.specs.Paper.Answers.{AnswersValue}
use Rattle.numbers.proofs.Laws.Signs.{read_back, raw-fits}
use Rattle.numbers.proofs.Theorems.ByteValues.{value-raw}
use Rattle.host.proofs.number_calls.bolsterweft_value_read.Goals as goal

pub returns-in-Ok : goal.returns-in-Ok
returns-in-Ok c =
    let g = not (eqb c.args.is_signed 0) in
    let z = c.in-Ok.raw in
    let a : AnswersValue c.args.width g c.args.bytes.now (Ok z) = c.in-Ok.ensures in
    let v = answered a refl in
    subst (λ (y : ℤ). AnswersValue c.args.width g c.args.bytes.now (Ok y)) (sym (read_back z (raw-fits z (value-raw g z v.known v.held)))) a

pub returns-in-Err : goal.returns-in-Err
returns-in-Err c = rw c.refusal_number.ensures c.in-Err.ensures
