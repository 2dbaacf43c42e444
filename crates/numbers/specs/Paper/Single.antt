-- 01, Numbers: "A raw number fits a single when it is zero or when the bits of its magnitude, without leading and
-- trailing zeros, number at most 24."
-- Assumes nothing.
use Rattle.std.specs.Prelude.{ℕ, suc, Bool, true, false, ◌||◌, List, [], ◌∷◌, reverse, eqb, leb, ℤ, pos, negsuc}
use Rattle.std.specs.Prelude.{nat_abs, length, Float}
use Rattle.std.specs.Float.Ieee.Exact.{HasValue}
use Rattle.digits.specs.Paper.Bits.{lows}

-- the bits from the first one on
unfoldable pub from_first_one : List Bool → List Bool
from_first_one [] = []
from_first_one (true ∷ bs) = true ∷ bs
from_first_one (false ∷ bs) = from_first_one bs

-- the bits of a magnitude, without its trailing zeros and then without its leading ones. (A raw number's magnitude
-- has 32 bits.)
unfoldable pub significant_bits : ℕ → List Bool
significant_bits n = from_first_one (reverse (from_first_one (lows 32 n)))

unfoldable pub fits_single : ℤ → Bool
fits_single z = eqb (nat_abs z) 0 || leb (length (significant_bits (nat_abs z))) 24

-- the float x is exactly the number z: finite, of z's sign, and of z's size. (`negsuc n` is −(n + 1).)
abbrev pub Exactly : Float → ℤ → Type 0
Exactly x (pos n) = HasValue x false n 1
Exactly x (negsuc n) = HasValue x true (suc n) 1
