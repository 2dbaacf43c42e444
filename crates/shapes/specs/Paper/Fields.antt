-- 02, K4: "An object with the members of a line of 01". A member with its name, and the values of a command's members,
-- without limits. How each is spelt is said in `asked`.
-- Assumes nothing.
use Rattle.std.specs.Prelude.{Bool, List, ℕ, ℤ}

-- ---- members

-- a member that is asked for: its name, and its value
pub record Named (A : Type 0) : Type 0 where
  pub name : List ℕ
  pub value : A

infixl 70 ◌∶◌
abbrev pub ◌∶◌ : {A : Type 0} → List ℕ → A → Named A
n ∶ v = record { name = n; value = v }

-- ---- values that are no objects

-- a whole number; bytes in hex; characters of one byte each; true or false
pub data Plain : Type 0 where
  whole : ℤ → Plain
  hex : List ℕ → Plain
  chars : List ℕ → Plain
  truth : Bool → Plain

-- ---- the values of a command's members

pub data Field : Type 0 where
  plain : Plain → Field
  reading : ℤ → ℕ → Field
