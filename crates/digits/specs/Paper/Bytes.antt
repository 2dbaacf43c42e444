-- Bytes, and parts of what a caller lends.
-- Assumes nothing.
use Rattle.std.specs.Prelude.{ℕ, ◌-◌, ◌<◌, List, get_or, take, drop}

-- each element is a byte
pub record Bytes (s : List ℕ) : Type 0 where
  pub each : (i : ℕ) → get_or s i 0 < 256

-- the elements from a up to e, as `&s[a..e]` has them
abbrev pub part : ℕ → ℕ → List ℕ → List ℕ
part a e s = take (e - a) (drop a s)
