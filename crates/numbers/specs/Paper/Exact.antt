-- Demand 2: "Each number's decimal text is exact": what a text says by its digits alone, each ten times the one
-- behind it, is the number.
-- Assumes nothing.
use Rattle.std.specs.Prelude.{◌≡◌, List, [], ◌∷◌, ◌++◌, ℕ, ◌+◌, ◌-◌, ◌*◌, ◌≤◌, ℤ, nat_abs, length}
use Rattle.digits.specs.Paper.Ascii.{ascii}
use Rattle.numbers.specs.Paper.Text.{below_zero, sign}

-- each is one of `0` to `9`
pub data Digits : List ℕ → Type 0 where
  none : Digits []
  one : {c : ℕ} {s : List ℕ} → 48 ≤ c → c ≤ 57 → Digits s → Digits (c ∷ s)

-- what digits are worth behind the number n: `0` is 48
unfoldable pub worth_behind : ℕ → List ℕ → ℕ
worth_behind n [] = n
worth_behind n (c ∷ s) = worth_behind (n * 10 + (c - 48)) s

-- what digits are worth
abbrev pub worth : List ℕ → ℕ
worth s = worth_behind 0 s

-- digits with a point before them, and no point if there are none
abbrev pub pointed : List ℕ → List ℕ
pointed [] = []
pointed (c ∷ s) = ascii "." ++ (c ∷ s)

-- t is z / 10 ^ d, and nothing is lost. It has a minus if z is below zero, and then digits with a point before the
-- last d. Without the point, they are worth the magnitude of z.
pub record Exact (z : ℤ) (d : ℕ) (t : List ℕ) : Type 0 where
  pub whole : List ℕ
  pub behind : List ℕ
  pub stands : t ≡ sign (below_zero z) ++ (whole ++ pointed behind)
  pub digits : Digits (whole ++ behind)
  pub decimals : length behind ≡ d
  pub magnitude : worth (whole ++ behind) ≡ nat_abs z
