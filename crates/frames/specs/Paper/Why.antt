-- 02, K1: "For a frame that "should be there" support wants, by kind and place, the first test that failed .., with the
-- check value found and the one expected."
-- Assumes nothing.
use Rattle.std.specs.Prelude.{false, List, ◌≡◌, ℕ, ◌<◌, length, drop, Option, None, Result, Ok, Err}
use Rattle.digits.specs.Paper.Refusals.{refusal_number, Answers}
use Rattle.digits.specs.declared.refusal.Refusal.{Refusal}
use Rattle.layouts.specs.Paper.Judged.{Judged}
use Rattle.layouts.specs.declared.Failure.{Failure}
use Rattle.layouts.specs.declared.Test.{Test}
use Rattle.layouts.specs.declared.Test.TheVariants.{Start, Length, Fields, First, Second}
use Rattle.frames.specs.Paper.Kinds.{number_of, layout_of, known}
use Rattle.frames.specs.declared.kinds.Kind.{Kind}

-- what is answered: the test that failed first, and the values of a failed check; nothing if a frame stands there
abbrev pub Failing : Type 0
Failing = Option Failure

-- the verdict on a frame of kind k that begins at the place: that of its layout on the bytes from there on
pub record JudgedAt (k : ℕ) (s : List ℕ) (place : ℕ) (v : Failing) : Type 0 where
  pub kind : Kind
  pub number : number_of kind ≡ k
  pub judged : Judged (layout_of kind) (drop place s) v

-- "Refusals: 2 and 3 as in 01": 2 "kind not 1 to 5", 3 "place beyond the buffer's length"
pub data WhyCause (k : ℕ) (s : List ℕ) (place : ℕ) : ℕ → Type 0 where
  no_kind : known k ≡ false → WhyCause k s place 2
  no_place : length s < place → WhyCause k s place 3

-- the refusal number and the values of an answer
abbrev pub verdict_refusal : Result Failing Refusal → ℕ
verdict_refusal (Ok v) = 0
verdict_refusal (Err why) = refusal_number why

abbrev pub zero_failing : Failing
zero_failing = None

abbrev pub verdict_failing : Result Failing Refusal → Failing
verdict_failing (Ok v) = v
verdict_failing (Err why) = zero_failing

-- r is the right answer
abbrev pub Whys : ℕ → List ℕ → ℕ → Result Failing Refusal → Type 0
Whys k s place r =
    Answers zero_failing (WhyCause k s place) (JudgedAt k s place) (verdict_refusal r) (verdict_failing r)

-- the numbers of the tests, for C: "start, length, digits or fields, first check, second check .., or none"; none has 0
-- (`judgement` of `host`, Paper/Why)
abbrev pub test_number : Test → ℕ
test_number Start = 1
test_number Length = 2
test_number Fields = 3
test_number First = 4
test_number Second = 5
