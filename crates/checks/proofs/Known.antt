-- Known check values, computed from the definitions.
-- Assumes nothing.
use mathlib.Core.Path.{◌≡◌, refl}
use mathlib.Core.List.{List, [], ◌∷◌}
use Prim.Native.Nat.{ℕ}
use Rattle.digits.specs.Paper.Ascii.{ascii}
use Rattle.digits.specs.Paper.Bits.{lows}
use Rattle.checks.specs.Paper.Bits.{bits, of_lows, of_bits, bits_of_bytes}
use Rattle.checks.specs.Paper.Check.{poly_bits, feed, check}
use Rattle.checks.specs.Paper.Buses.{nikobus_crc16, nikobus_crc8, nest_crc, nibe_xor, homiq_crc}

-- ---- the paper's examples

-- 01: "001 calls the check of `82 00 02 00 00 00` 0x08B2. The rule gives 0xB208"
pub nest-six : check nest_crc (0x82 ∷ 0x00 ∷ 0x02 ∷ 0x00 ∷ 0x00 ∷ 0x00 ∷ []) ≡ 0xB208
unfolding feed poly_bits bits lows of_bits of_lows bits_of_bytes
nest-six = refl

-- 01, known point (c), the reset frame: `D5 AA 96 FF 00 00 00 A3 4B`, low byte first
pub nest-reset : check nest_crc (0xFF ∷ 0x00 ∷ 0x00 ∷ 0x00 ∷ []) ≡ 0x4BA3
unfolding feed poly_bits bits lows of_bits of_lows bits_of_bytes
nest-reset = refl

-- 01, known point (a): `$10110000B8CF9D` CR is link; the payload's bytes
pub nikobus-payload : check nikobus_crc16 (0x11 ∷ 0x00 ∷ 0x00 ∷ []) ≡ 0xB8CF
unfolding feed poly_bits bits lows of_bits of_lows bits_of_bytes
nikobus-payload = refl

-- the same: the characters from `$` to the end of the CRC16
pub nikobus-characters : check nikobus_crc8 (ascii "$10110000B8CF") ≡ 0x9D
unfolding feed poly_bits bits lows of_bits of_lows bits_of_bytes
nikobus-characters = refl

-- 01, known point (g): `<;I.3;1;0H;0;42;s;134;>` passes; its six fields joined
pub homiq-six : check homiq_crc (ascii "I.310H042s") ≡ 134
unfolding feed poly_bits bits lows of_bits of_lows bits_of_bytes
homiq-six = refl

-- 01, known point (h): "its acknowledgement has 64"; its six fields joined
pub homiq-acknowledged : check homiq_crc (ascii "I.3100H42a") ≡ 64
unfolding feed poly_bits bits lows of_bits of_lows bits_of_bytes
homiq-acknowledged = refl

-- 01, on 002: "only `C0 69 02 64 00 66` has a right check byte": over the length and the data
pub nibe-ask : check nibe_xor (0x02 ∷ 0x64 ∷ 0x00 ∷ []) ≡ 0x66
unfolding feed poly_bits bits lows of_bits of_lows bits_of_bytes
nibe-ask = refl

-- 01: "Errors to guard against: .. checking Nibe from C0", which would give CF
pub nibe-from-start : check nibe_xor (0xC0 ∷ 0x69 ∷ 0x02 ∷ 0x64 ∷ 0x00 ∷ []) ≡ 0xCF
unfolding feed poly_bits bits lows of_bits of_lows bits_of_bytes
nibe-from-start = refl

-- 01, Nibe: "the command is not covered": with it the check would be 0F
pub nibe-from-command : check nibe_xor (0x69 ∷ 0x02 ∷ 0x64 ∷ 0x00 ∷ []) ≡ 0x0F
unfolding feed poly_bits bits lows of_bits of_lows bits_of_bytes
nibe-from-command = refl

-- ---- the check value of the characters `123456789`, which the catalogues of checks give for those that they list

abbrev digits : List ℕ
digits = ascii "123456789"

-- CRC-16/IBM-3740
pub nikobus16-catalogue : check nikobus_crc16 digits ≡ 0x29B1
unfolding feed poly_bits bits lows of_bits of_lows bits_of_bytes
nikobus16-catalogue = refl

-- polynomial 0x99 stands in no catalogue that we know: this is what the definition gives, and tests/points.py finds the same
pub nikobus8-digits : check nikobus_crc8 digits ≡ 0x95
unfolding feed poly_bits bits lows of_bits of_lows bits_of_bytes
nikobus8-digits = refl

-- CRC-16/XMODEM
pub nest-catalogue : check nest_crc digits ≡ 0x31C3
unfolding feed poly_bits bits lows of_bits of_lows bits_of_bytes
nest-catalogue = refl

-- the exclusive or, of which no catalogue speaks
pub nibe-digits : check nibe_xor digits ≡ 0x31
unfolding feed poly_bits bits lows of_bits of_lows bits_of_bytes
nibe-digits = refl

-- CRC-8/MAXIM-DOW
pub homiq-catalogue : check homiq_crc digits ≡ 0xA1
unfolding feed poly_bits bits lows of_bits of_lows bits_of_bytes
homiq-catalogue = refl
