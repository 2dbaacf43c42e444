-- Numbers and bytes as bits, in either order.
-- Assumes nothing.
use Rattle.std.specs.Prelude.{ℕ, ◌+◌, ◌*◌, Bool, true, false, List, [], ◌∷◌, ◌++◌, reverse}
use Rattle.digits.specs.Paper.Bits.{lows}

-- 01: "high bit first", "low bit first"
pub data BitOrder : Type 0 where
  high_bit_first low_bit_first : BitOrder

-- the w low bits of a number, in an order
unfoldable pub bits : BitOrder → ℕ → ℕ → List Bool
bits low_bit_first w n = lows w n
bits high_bit_first w n = reverse (lows w n)

abbrev pub worth : Bool → ℕ
worth false = 0
worth true = 1

-- the number whose bits these are, the lowest first
unfoldable pub of_lows : List Bool → ℕ
of_lows [] = 0
of_lows (b ∷ bs) = of_lows bs * 2 + worth b

-- the number whose bits these are, in an order
unfoldable pub of_bits : BitOrder → List Bool → ℕ
of_bits low_bit_first bs = of_lows bs
of_bits high_bit_first bs = of_lows (reverse bs)

-- 01: "Their bits follow one another in the check's bit order"
unfoldable pub bits_of_bytes : BitOrder → List ℕ → List Bool
bits_of_bytes o [] = []
bits_of_bytes o (b ∷ s) = bits o 8 b ++ bits_of_bytes o s
