-- A loop over things that stand one behind the other: what the rest is says what the whole is.
-- Assumes nothing.
use Rattle.std.specs.Prelude.{◌≡◌, List, ℕ, ◌+◌, length}

-- n - 1 things have been passed: a list for the rest gives one for the whole, and the other way round
pub record Carried {X : Type 0} (Whole Rest : List X → Type 0) (n : ℕ) : Type 0 where
  pub forth : (rest : List X) → Rest rest → (whole : List X) × Whole whole × (1 + length whole ≡ n + length rest)
  pub back : (whole : List X) → Whole whole → (rest : List X) × Rest rest
