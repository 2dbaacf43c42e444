-- Known digits, computed.
-- Assumes nothing.
use mathlib.Core.Path.{◌≡◌, refl}
use mathlib.Core.List.{[], ◌∷◌}
use Rattle.digits.specs.Paper.Ascii.{ascii}
use Rattle.digits.specs.Paper.Hex.{hex_digit, hex_byte, hex_word, hex_bytes}
use Rattle.digits.specs.Paper.Decimal.{decimal_in, enough, decimal}
use Rattle.digits.specs.Paper.LowFirst.{low_byte_first}

-- 01, known point (a): the payload, CRC16 and CRC8 of `$10110000B8CF9D`
pub payload : hex_bytes (0x11 ∷ 0x00 ∷ 0x00 ∷ []) ≡ ascii "110000"
unfolding hex_bytes hex_byte hex_digit
payload = refl

pub crc16 : hex_word 0xB8CF ≡ ascii "B8CF"
unfolding hex_word hex_byte hex_digit
crc16 = refl

pub crc8 : hex_byte 0x9D ≡ ascii "9D"
unfolding hex_byte hex_digit
crc8 = refl

-- 01, known points (g) and (h): the ID and the CRCs; and the ends of the ranges
pub id : decimal 42 ≡ ascii "42"
unfolding decimal enough decimal_in
id = refl

pub crcs : (decimal 134 ≡ ascii "134") × (decimal 64 ≡ ascii "64")
unfolding decimal enough decimal_in
crcs = (refl, refl)

pub ends : (decimal 0 ≡ ascii "0") × (decimal 10 ≡ ascii "10") × (decimal 4294967295 ≡ ascii "4294967295")
    × (decimal 18446744073709551615 ≡ ascii "18446744073709551615")
unfolding decimal enough decimal_in
ends = (refl, refl, refl, refl)

-- 01: register 47011 is 0xB7A3; known point (e): `44 9C` asks 40004
pub register : (hex_word 47011 ≡ ascii "B7A3") × (low_byte_first 2 40004 ≡ 0x44 ∷ 0x9C ∷ [])
unfolding hex_word hex_byte hex_digit low_byte_first
register = (refl, refl)
