-- `faults::in_text` meets its contract.
-- Assumes nothing.
use native.Mathlib.Omega.{arith}
use Rattle.jsontext.proofs.Laws.Faults.{in-text, behind-value}
use Rattle.jsontext.proofs.Laws.Places.{found}
use Rattle.jsontext.proofs.faults.in_text.Goals as goal

pub in_value-requires : goal.in_value-requires
in_value-requires c = c.blanks-start.ensures.within (omega arith)

pub returns-in_default : goal.returns-in_default
returns-in_default c = in-text c.requires.0 c.blanks-start.ensures c.in_default.ensures c.in_value.ensures

pub returns : goal.returns
returns c = behind-value c.requires.0 c.requires.1 c.blanks-start.ensures (found c.in-Some.ensures) c.blanks.ensures
