-- `host::number_calls::bolsterweft_panel` meets its contract: it is `panel::of`, case by case.
-- Assumes nothing.
use mathlib.Core.Path.{subst}
use Rattle.std.specs.Prelude.{Ok, Err}
use lib.Ieee.{of_bits}
use lib.IntN.{ℤ}
use Rattle.numbers.specs.Paper.Answers.{AnswersPanel}
use Rattle.numbers.specs.declared.panel.Value.{Value}
use Rattle.numbers.specs.declared.panel.Value.TheVariants.{Single, Double}
use Rattle.numbers.proofs.Laws.Signs.{back, said}
use Rattle.host.proofs.Laws.Panel.{as-shown, not-shown}
use Rattle.host.proofs.number_calls.bolsterweft_panel.Goals as goal

pub returns-in-Single : goal.returns-in-Single
unfolding of_bits
returns-in-Single c =
    let v = Single c.in-Single.x in
    let y = back c.args.raw in
    as-shown v
    (said (λ (x : ℤ). AnswersPanel x (Ok v)) c.args.raw c.ranges.raw
    (subst (λ (w : Value). AnswersPanel y (Ok w)) c.in-Single.is c.in-Ok.ensures))

pub returns-in-Double : goal.returns-in-Double
unfolding of_bits
returns-in-Double c =
    let v = Double c.in-Double.x in
    let y = back c.args.raw in
    as-shown v
    (said (λ (x : ℤ). AnswersPanel x (Ok v)) c.args.raw c.ranges.raw
    (subst (λ (w : Value). AnswersPanel y (Ok w)) c.in-Double.is c.in-Ok.ensures))

pub returns-in-Err : goal.returns-in-Err
unfolding of_bits
returns-in-Err c =
    rw c.refusal_number.ensures
    (not-shown c.in-Err.why (said (λ (y : ℤ). AnswersPanel y (Err c.in-Err.why)) c.args.raw c.ranges.raw c.in-Err.ensures))
