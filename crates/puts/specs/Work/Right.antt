-- How long the right bytes are, and whether a room has room for them.
-- Assumes nothing.
use Rattle.std.specs.Prelude.{Bool, List, ◌≡◌, ℕ, leb, length}

-- the bytes of which `Right` holds are n bytes
pub record SizedRight (Right : List ℕ → Type 0) (n : ℕ) : Type 0 where
  pub text : List ℕ
  pub right : Right text
  pub size : n ≡ length text

-- r is whether a room of n bytes has room for them
pub record FitsRight (Right : List ℕ → Type 0) (n : ℕ) (r : Bool) : Type 0 where
  pub text : List ℕ
  pub right : Right text
  pub fits : r ≡ leb (length text) n
