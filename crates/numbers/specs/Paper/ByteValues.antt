-- 01, Numbers: "Byte values have width 1, 2 or 4, signed (two's complement) or not"; Messages: "numbers are low byte
-- first".
-- Assumes nothing.
use Rattle.std.specs.Prelude.{ℕ, suc, ◌-◌, ◌*◌, ◌/◌, ◌^◌, Bool, true, false, List, leb, ℤ, pos, negsuc, neg_ℤ}
use Rattle.digits.specs.Paper.LowFirst.{low_byte_first}
use Rattle.numbers.specs.Paper.Raw.{Between}

-- what w bytes hold, signed or not: from the least to the most
abbrev pub least : ℕ → Bool → ℤ
least w true = neg_ℤ (pos (256 ^ w / 2))
least w false = pos 0

abbrev pub most : ℕ → Bool → ℤ
most w true = pos (256 ^ w / 2 - 1)
most w false = pos (256 ^ w - 1)

abbrev pub HeldBy : ℕ → Bool → ℤ → Type 0
HeldBy w signed z = Between (least w signed) (most w signed) z

-- "two's complement": the number of w bytes that stands for z. (`negsuc n` is −(n + 1).)
abbrev pub twos : ℕ → ℤ → ℕ
twos w (pos n) = n
twos w (negsuc n) = 256 ^ w - suc n

-- z in w bytes
abbrev pub value_bytes : ℕ → ℤ → List ℕ
value_bytes w z = low_byte_first w (twos w z)

-- and the number that a number n of w bytes stands for: below zero from the half of all on, if there is a sign
abbrev pub stands_below : ℕ → Bool → ℕ → Bool
stands_below w true n = leb (256 ^ w) (2 * n)
stands_below w false n = false

abbrev pub from_twos : ℕ → ℕ → Bool → ℤ
from_twos w n true = neg_ℤ (pos (256 ^ w - n))
from_twos w n false = pos n

abbrev pub of_twos : ℕ → Bool → ℕ → ℤ
of_twos w signed n = from_twos w n (stands_below w signed n)
