-- The terms of a polynomial.
-- Assumes nothing.
use Rattle.std.specs.Prelude.{Bool, false, List, [], ◌∷◌}

-- the last bit is set: of a polynomial, that its constant term is 1
abbrev pub last_set : List Bool → Bool
last_set [] = false
last_set (b ∷ []) = b
last_set (b ∷ d ∷ bs) = last_set (d ∷ bs)
