-- The checks of the four buses, as 01 gives them.
-- Assumes nothing.
use Rattle.std.specs.Prelude.{List, [], ◌∷◌}
use Rattle.checks.specs.Paper.Bits.{high_bit_first, low_bit_first}
use Rattle.checks.specs.Paper.Check.{Check}

-- 01, Nikobus: "CRC16 covers the payload's bytes: polynomial 0x1021, start 0xFFFF, high bit first"
abbrev pub nikobus_crc16 : Check
nikobus_crc16 = record { width = 16; poly = 0x1021; start = 0xFFFF; order = high_bit_first }

-- 01, Nikobus: "CRC8 covers the characters from `$` to the end of the CRC16: polynomial 0x99, start 0, high bit first"
abbrev pub nikobus_crc8 : Check
nikobus_crc8 = record { width = 8; poly = 0x99; start = 0; order = high_bit_first }

-- 01, Nest: "CRC, low byte first, over id, length and payload: 0x1021, start 0, high bit first"
abbrev pub nest_crc : Check
nest_crc = record { width = 16; poly = 0x1021; start = 0; order = high_bit_first }

-- 01, Nibe: "The check is the XOR of the length and the data" (that is Paper/Xor). As a check with a width and a bit
-- order, of which demand 3 speaks, it is that of the polynomial x^8 + 1, since a register that moves eight places
-- round is as before; 01: "Nibe counts as high bit first".
abbrev pub nibe_xor : Check
nibe_xor = record { width = 8; poly = 0x01; start = 0; order = high_bit_first }

-- 01, Homiq: "The CRC covers the six fields joined without separators: shift right, 0x8C, start 0, low bit first"
abbrev pub homiq_crc : Check
homiq_crc = record { width = 8; poly = 0x8C; start = 0; order = low_bit_first }

-- all of them
abbrev pub checks : List Check
checks = nikobus_crc16 ∷ nikobus_crc8 ∷ nest_crc ∷ nibe_xor ∷ homiq_crc ∷ []
