-- Where a hex digit stands in the table, for the function that looks it up there.
-- Assumes nothing.
use Rattle.std.specs.Prelude.{ℕ, ◌+◌, ◌%◌, cond, ltb}

-- the one value below 16 whose digit c can be
unfoldable pub place_of : ℕ → ℕ
place_of c = cond (ltb c 65) (c % 16) ((c % 16 + 9) % 16)
