-- What is wrong with a sheet, as a program in C has it: the test by its number.
-- Assumes nothing.
use Rattle.std.specs.Prelude.{List, ◌≡◌, ℕ}
use Rattle.sheet.specs.Paper.Fault.{Faulty}
use Rattle.host_sheet.specs.declared.Fault.{Fault}

-- r is the right answer: it is no refusal, and has the first line that is wrong and the first test that it fails
pub record ToldFault (text : List ℕ) (r : Fault) : Type 0 where
  pub answered : r.refusal ≡ 0
  pub faulty : Faulty text r.line r.test
