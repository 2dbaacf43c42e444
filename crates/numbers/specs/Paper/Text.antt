-- 01, Numbers: "Its text has a whole part of one digit or without leading zero, exactly that many digits after the
-- point, no point for 0 decimals, and no minus on zero".
-- Assumes nothing.
use Rattle.std.specs.Prelude.{ℕ, zero, suc, ◌/◌, ◌%◌, ◌^◌, ◌≤◌, Bool, true, false, List, [], ◌∷◌, ◌++◌, ℤ, pos, negsuc}
use Rattle.std.specs.Prelude.{nat_abs}
use Rattle.digits.specs.Paper.Ascii.{ascii}
use Rattle.digits.specs.Paper.Decimal.{decimal_digit, decimal}
use Rattle.numbers.specs.Paper.Raw.{Raw, most_decimals}

-- `negsuc n` is −(n + 1), so zero is not below zero
abbrev pub below_zero : ℤ → Bool
below_zero (pos n) = false
below_zero (negsuc n) = true

abbrev pub sign : Bool → List ℕ
sign true = ascii "-"
sign false = []

-- the last k decimal digits of n
unfoldable pub last_digits : ℕ → ℕ → List ℕ
last_digits zero n = []
last_digits (suc k) n = last_digits k (n / 10) ++ (decimal_digit (n % 10) ∷ [])

-- "exactly that many digits after the point, no point for 0 decimals"
abbrev pub fraction : ℕ → ℕ → List ℕ
fraction zero n = []
fraction (suc d) n = ascii "." ++ last_digits (suc d) n

-- the text of a number by its sign and magnitude, at d decimals: the sign, the whole part, the fraction
unfoldable pub text_of : Bool → ℕ → ℕ → List ℕ
text_of minus n d = sign minus ++ (decimal (n / 10 ^ d) ++ fraction d n)

-- the text of the number z at d decimals: −5 at 2 is `-0.05`
abbrev pub text : ℤ → ℕ → List ℕ
text z d = text_of (below_zero z) (nat_abs z) d

-- a raw number and its decimals, what a text says
pub record Number : Type 0 where
  pub raw : ℤ
  pub decimals : ℕ

pub record InLimits (n : Number) : Type 0 where
  pub in-range : Raw n.raw
  pub few : n.decimals ≤ most_decimals
