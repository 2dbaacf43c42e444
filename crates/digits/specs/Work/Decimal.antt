-- The number that characters are taken for. The function that guesses it then tests whether they are its digits.
-- Assumes nothing.
use Rattle.std.specs.Prelude.{ℕ, ◌+◌, ◌*◌, ◌%◌, List, [], ◌∷◌}

-- the number n with a digit more for each character: 48 and 2 are 50, so that a digit's character gives its value
unfoldable pub guess : ℕ → List ℕ → ℕ
guess n [] = n
guess n (c ∷ s) = guess (n * 10 + (c + 2) % 10) s
