-- 02, K1: "the first test that failed .., with the check value found and the one expected", as a program in C has it:
-- the test by its number.
-- Assumes nothing.
use Rattle.std.specs.Prelude.{List, ◌≡◌, ℕ, Some, None}
use Rattle.frames.specs.Paper.Why.{Failing, JudgedAt, test_number}
use Rattle.host.specs.declared.answers.Verdict.{Verdict}

pub record Judgement : Type 0 where
  pub test : ℕ
  pub found : ℕ
  pub expected : ℕ

abbrev pub zero_judgement : Judgement
zero_judgement = record { test = 0; found = 0; expected = 0 }

-- a verdict in numbers: the test's, and its values; zeros if a frame stands there
abbrev pub judgement : Failing → Judgement
judgement None = zero_judgement
judgement (Some f) = record { test = test_number f.test; found = f.found; expected = f.expected }

-- the verdict on a frame of kind k that begins at the place
pub record JudgementAt (k : ℕ) (s : List ℕ) (place : ℕ) (v : Judgement) : Type 0 where
  pub failing : Failing
  pub judged : JudgedAt k s place failing
  pub is : v ≡ judgement failing

-- what the members of an answer say
abbrev pub judgement_in : Verdict → Judgement
judgement_in r = record { test = r.test; found = r.found; expected = r.expected }
