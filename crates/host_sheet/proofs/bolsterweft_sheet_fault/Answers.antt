-- `host_sheet::bolsterweft_sheet_fault` meets its contract: it is `sheet::fault`, case by case, the test by its number.
-- Assumes nothing.
use mathlib.Core.Path.{refl}
use Rattle.host_sheet.proofs.bolsterweft_sheet_fault.Goals as goal

pub returns-in-None : goal.returns-in-None
returns-in-None c = record { answered = refl; faulty = c.in-None.ensures }

pub returns-in-Some : goal.returns-in-Some
returns-in-Some c = record { answered = refl; faulty = rw c.test_number.ensures c.in-Some.ensures }
