-- What it is to read, which is the inverse of writing, and to test.
-- Assumes nothing.
use Rattle.std.specs.Prelude.{◌≡◌, ℕ, Bool, true, false, List}

-- The right answer to reading s, as a refusal number and a value: 0 and the value within the limits that is written
-- s; or the refusal `no` and zeros, if there is no such value.
pub data Reads {A : Type 0} (zeros : A) (Limits : A → Type 0) (write : A → List ℕ) (no : ℕ) (s : List ℕ)
    : ℕ → A → Type 0 where
  is : {v : A} → Limits v → write v ≡ s → Reads zeros Limits write no s 0 v
  none : ((v : A) → Limits v → write v ≡ s → ⊥) → Reads zeros Limits write no s no zeros

-- The right answer to a test: true if A holds, and false if it does not.
pub data Decides (A : Type 0) : Bool → Type 0 where
  holds : A → Decides A true
  fails : (A → ⊥) → Decides A false
