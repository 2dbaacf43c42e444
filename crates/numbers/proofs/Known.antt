-- Known numbers, computed.
-- Assumes nothing.
use mathlib.Core.Path.{◌≡◌, refl}
use mathlib.Core.Bool.{true, false}
use mathlib.Core.List.{[], ◌∷◌}
use lib.IntN.{pos, neg_ℤ}
use lib.Ieee.{fin, of_int}
use Rattle.digits.specs.Paper.Ascii.{ascii}
use Rattle.digits.specs.Paper.Bits.{lows}
use Rattle.digits.specs.Paper.Decimal.{decimal_in, enough, decimal}
use Rattle.digits.specs.Paper.LowFirst.{low_byte_first}
use Rattle.numbers.specs.Paper.Text.{last_digits, text_of, text}
use Rattle.numbers.specs.Paper.ByteValues.{value_bytes}
use Rattle.numbers.specs.Paper.Single.{from_first_one, significant_bits, fits_single}
use Rattle.numbers.specs.Paper.Panel.{panel_of}
use Rattle.numbers.specs.declared.panel.Value.TheVariants.{Single, Double}

-- 01, known point (i): −5 with 2 decimals; the paper's reading; zero; and the ends of the range
pub minus-five : text (neg_ℤ (pos 5)) 2 ≡ ascii "-0.05"
unfolding text_of last_digits decimal enough decimal_in
minus-five = refl

pub reading : text (neg_ℤ (pos 125)) 1 ≡ ascii "-12.5"
unfolding text_of last_digits decimal enough decimal_in
reading = refl

pub zero : (text (pos 0) 0 ≡ ascii "0") × (text (pos 0) 3 ≡ ascii "0.000")
unfolding text_of last_digits decimal enough decimal_in
zero = (refl, refl)

pub ends : (text (pos 4294967295) 3 ≡ ascii "4294967.295") × (text (neg_ℤ (pos 2147483648)) 3 ≡ ascii "-2147483.648")
    × (text (neg_ℤ (pos 2147483648)) 0 ≡ ascii "-2147483648")
unfolding text_of last_digits decimal enough decimal_in
ends = (refl, refl, refl)

-- 01, known point (j)
pub fit : (fits_single (pos 16777216) ≡ true) × (fits_single (pos 4294967040) ≡ true)
unfolding fits_single significant_bits from_first_one lows
fit = (refl, refl)

pub do-not-fit : (fits_single (pos 16777217) ≡ false) × (fits_single (pos 33554434) ≡ false)
unfolding fits_single significant_bits from_first_one lows
do-not-fit = (refl, refl)

-- and what the panel is shown of the two numbers that must never look the same: 2 ^ 24, and 2 ^ 24 + 1
pub shown : (panel_of (pos 16777216) ≡ Single (fin false 1 (pos 24))) × (panel_of (pos 16777217) ≡ Double (fin false 16777217 (pos 0)))
unfolding fits_single significant_bits from_first_one lows of_int
shown = (refl, refl)

-- two's complement, low byte first
pub bytes : (value_bytes 1 (neg_ℤ (pos 1)) ≡ 0xFF ∷ []) × (value_bytes 2 (neg_ℤ (pos 32768)) ≡ 0x00 ∷ 0x80 ∷ []) × (value_bytes 4 (pos 4294967295) ≡ 0xFF ∷ 0xFF ∷ 0xFF ∷ 0xFF ∷ [])
unfolding low_byte_first
bytes = (refl, refl, refl)
