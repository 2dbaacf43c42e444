-- `host::number_calls::bolsterweft_fits` meets its contract: it is `single::fits`, case by case.
-- Assumes nothing.
use Rattle.std.specs.Prelude.{Ok, Err}
use lib.IntN.{ℤ}
use Rattle.numbers.specs.Paper.Answers.{AnswersFits}
use Rattle.numbers.proofs.Laws.Signs.{said}
use Rattle.host.proofs.Laws.Panel.{as-flag, no_flag}
use Rattle.host.proofs.number_calls.bolsterweft_fits.Goals as goal

pub returns-in-Ok : goal.returns-in-Ok
returns-in-Ok c = as-flag c.in-Ok.holds (said (λ (y : ℤ). AnswersFits y (Ok c.in-Ok.holds)) c.args.raw c.ranges.raw c.in-Ok.ensures)

pub returns-in-Err : goal.returns-in-Err
returns-in-Err c =
    rw c.refusal_number.ensures
    (no_flag c.in-Err.why (said (λ (y : ℤ). AnswersFits y (Err c.in-Err.why)) c.args.raw c.ranges.raw c.in-Err.ensures))
