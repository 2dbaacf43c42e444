-- Numbers as bits.
-- Assumes nothing.
use Rattle.std.specs.Prelude.{ℕ, zero, suc, ◌/◌, ◌%◌, Bool, true, false, List, [], ◌∷◌}

abbrev pub is_set : ℕ → Bool
is_set zero = false
is_set (suc n) = true

-- the w low bits of a number, the lowest first
unfoldable pub lows : ℕ → ℕ → List Bool
lows zero n = []
lows (suc w) n = is_set (n % 2) ∷ lows w (n / 2)
