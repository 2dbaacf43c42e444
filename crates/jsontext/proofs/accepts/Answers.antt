-- `accepts` meets its contract.
-- Assumes nothing.
use Rattle.jsontext.proofs.Laws.Accepts.{too_long, no_value, judged}
use Rattle.jsontext.proofs.Laws.Places.{found}
use Rattle.jsontext.proofs.accepts.Goals as goal

pub returns-then-text-gt-MOST_BYTES : goal.returns-then-text-gt-MOST_BYTES
returns-then-text-gt-MOST_BYTES c = too_long c.if-text-gt-MOST_BYTES.true

pub returns-in_default : goal.returns-in_default
returns-in_default c = no_value c.blanks-start.ensures c.in_default.ensures

pub returns : goal.returns
returns c =
    judged c.blanks-start.ensures (found c.in-Some.ensures) c.blanks.ensures
    c.if-text-gt-MOST_BYTES.false
