-- 01, Homiq: "decimal without leading zeros"; Numbers: "a whole part of one digit or without leading zero".
-- Assumes nothing.
use Rattle.std.specs.Prelude.{ℕ, zero, suc, ◌+◌, ◌/◌, ◌%◌, ◌^◌, cond, List, [], ◌∷◌, ◌++◌, ltb}

-- the digit of a value below 10: `0` is 48
abbrev pub decimal_digit : ℕ → ℕ
decimal_digit v = 48 + v

-- below 10 the one digit; else those of n / 10, and then the last
unfoldable pub decimal_in : ℕ → ℕ → List ℕ
decimal_in zero n = decimal_digit n ∷ []
decimal_in (suc most) n =
    cond (ltb n 10) (decimal_digit n ∷ [])
    (decimal_in most (n / 10) ++ (decimal_digit (n % 10) ∷ []))

-- a bound on the digits before the last, which only ends the recursion: 19 is enough for 64 bits, and n for any n
unfoldable pub enough : ℕ → ℕ
enough n = cond (ltb n (10 ^ 20)) 19 n

-- the decimal digits of n
unfoldable pub decimal : ℕ → List ℕ
decimal n = decimal_in (enough n) n
