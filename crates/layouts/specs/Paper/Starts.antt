-- How a frame of each bus can begin, by its first three bytes. (Ours: the search passes over every place where this
-- does not hold. That no frame begins otherwise is a law.)
-- Assumes nothing.
use Rattle.std.specs.Prelude.{Bool, ◌&&◌, ◌||◌, List, ℕ, ◌/◌, eqb, leb, length, get_or}
use Rattle.layouts.specs.declared.nest.Direction.{Direction}
use Rattle.layouts.specs.declared.nest.Direction.TheVariants.{Command, Response}

-- at least three bytes, of which a test holds
abbrev pub first_three : (ℕ → ℕ → ℕ → Bool) → List ℕ → Bool
first_three test s = leb 3 (length s) && test (get_or s 0 0) (get_or s 1 0) (get_or s 2 0)

-- `$` or `#`, and then a digit or a letter
unfoldable pub nikobus_starts : List ℕ → Bool
nikobus_starts s = first_three (λ a b c. (eqb a 36 || eqb a 35) && leb 48 b) s

-- the preamble, or the first three bytes of it
unfoldable pub nest_starts : Direction → List ℕ → Bool
nest_starts Command s = first_three (λ a b c. eqb a 0xD5 && (eqb b 0xAA && eqb c 0x96)) s
nest_starts Response s = first_three (λ a b c. eqb a 0xD5 && (eqb b 0xD5 && eqb c 0xAA)) s

-- C0, and then a command, all of which begin with 6
unfoldable pub nibe_starts : List ℕ → Bool
nibe_starts s = first_three (λ a b c. eqb a 0xC0 && eqb (b / 16) 6) s

-- `<;`
unfoldable pub homiq_starts : List ℕ → Bool
homiq_starts s = first_three (λ a b c. eqb a 60 && eqb b 59) s
