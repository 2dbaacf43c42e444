-- What a reader answers.
-- Assumes nothing.
use Rattle.std.specs.Prelude.{List, ◌≡◌, ℕ, ◌≤◌, ◌<◌, length, drop, Option, None, Some}
use Rattle.jsontext.specs.Paper.Abnf.{Rule}
use Rattle.jsontext.specs.Work.Tight.{All}

-- What the rule derives stands in s from p on and ends at r, and nowhere else; or it does not stand there.
pub data Found (a : Rule) (s : List ℕ) (p : ℕ) : Option ℕ → Type 0 where
  ends : {r : ℕ} → p < r → r ≤ length s → a (drop p s) (drop r s)
      → ((t : List ℕ) → a (drop p s) t → t ≡ drop r s) → Found a s p (Some r)
  none : ((t : List ℕ) → a (drop p s) t → ⊥) → Found a s p None

-- What the rule derives stands in s from p on and ends at r, perhaps at p itself, and nowhere else.
pub record Passed (a : Rule) (s : List ℕ) (p r : ℕ) : Type 0 where
  pub on : p ≤ r
  pub within : p ≤ length s → r ≤ length s
  pub is : a (drop p s) (drop r s)
  pub only : (t : List ℕ) → a (drop p s) t → t ≡ drop r s

-- As many as there are, from p on, end at r.
abbrev pub Skipped : Rule → List ℕ → ℕ → ℕ → Type 0
Skipped a = Passed (All a)

-- What the rule derives ends at r, perhaps at p itself; or it does not stand there.
pub data May (a : Rule) (s : List ℕ) (p : ℕ) : Option ℕ → Type 0 where
  passes : {r : ℕ} → r ≤ length s → Passed a s p r → May a s p (Some r)
  breaks : ((t : List ℕ) → a (drop p s) t → ⊥) → May a s p None
