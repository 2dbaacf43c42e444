-- 01, "Refusal numbers", and 02, K2 and K4: the table, which cause of several refuses a call, and what it answers then.
-- Assumes nothing.
use Rattle.std.specs.Prelude.{ℕ, ◌<◌, List, [], ◌∷◌}
use Rattle.digits.specs.declared.refusal.Refusal.{Refusal}
use Rattle.digits.specs.declared.refusal.Refusal.TheVariants.{NoFrame, NoKind, NoPlace, NoRoom}
use Rattle.digits.specs.declared.refusal.Refusal.TheVariants.{OutOfLimits, ContentAbove, BadForm, NoBook}
use Rattle.digits.specs.declared.refusal.Refusal.TheVariants.{NoRegister, BadSheet, NotInGrammar, BadMembers}

-- "no frame from that place on"; "kind not 1 to 5"; "place beyond the buffer's length; entry number not below the
-- count"; "lent room too short for the answer"; "a field, frame or book outside its limits; a raw number out of
-- range, or not held by its width and sign"; "a message with the content of one above it in the table"; "width,
-- decimals or number text not as above, or a text whose number is out of range"; "not a valid book". 02, K2: "register
-- not in the sheet or data ends inside a pair"; "sheet not as described". K4: "not in the grammar or over a limit";
-- "members missing, extra, of another sort or spelling, with a character above U+00FF, or disagreeing, kind with msg
-- too"
abbrev pub refusal_number : Refusal → ℕ
refusal_number NoFrame = 1
refusal_number NoKind = 2
refusal_number NoPlace = 3
refusal_number NoRoom = 4
refusal_number OutOfLimits = 5
refusal_number ContentAbove = 6
refusal_number BadForm = 7
refusal_number NoBook = 8
refusal_number NoRegister = 9
refusal_number BadSheet = 10
refusal_number NotInGrammar = 11
refusal_number BadMembers = 12

-- "Tested in the order 8, 2, 3, 7, 5, 6, 4, 1". 02, K2: 5, 10, 9, "in that order, before 6". K4: 11, 12, "in that
-- order, both before 5"
abbrev pub refusal_order : List ℕ
refusal_order = 8 ∷ 2 ∷ 3 ∷ 7 ∷ 11 ∷ 12 ∷ 5 ∷ 10 ∷ 9 ∷ 6 ∷ 4 ∷ 1 ∷ []

-- the first number of the list whose cause applies; 0 if none does
pub data First (Cause : ℕ → Type 0) : List ℕ → ℕ → Type 0 where
  clear : First Cause [] 0
  here : {no : ℕ} {later : List ℕ} → Cause no → First Cause (no ∷ later) no
  after : {no first : ℕ} {later : List ℕ} → (Cause no → ⊥) → First Cause later first
      → First Cause (no ∷ later) first

-- The right answer of a call, as a refusal number and a value. If no cause applies: 0 and the right value. Otherwise:
-- the number of the first cause that applies, and zeros ("Refusals return zeros").
pub data Answers {A : Type 0} (zeros : A) (Cause : ℕ → Type 0) (Right : A → Type 0) : ℕ → A → Type 0 where
  answers : {v : A} → First Cause refusal_order 0 → Right v → Answers zeros Cause Right 0 v
  refuses : {no : ℕ} → 0 < no → First Cause refusal_order no → Answers zeros Cause Right no zeros
