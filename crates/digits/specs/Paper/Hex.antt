-- 01, Nikobus: "hex digits upper case only".
-- Assumes nothing.
use Rattle.std.specs.Prelude.{ℕ, ◌/◌, ◌%◌, List, [], ◌∷◌, ◌++◌, get_or}
use Rattle.digits.specs.Paper.Ascii.{ascii}

-- the digit of a value below 16
unfoldable pub hex_digit : ℕ → ℕ
hex_digit v = get_or (ascii "0123456789ABCDEF") v 0

-- a byte as two digits, the high one first
unfoldable pub hex_byte : ℕ → List ℕ
hex_byte b = hex_digit (b / 16) ∷ hex_digit (b % 16) ∷ []

-- a number of 16 bits as four
unfoldable pub hex_word : ℕ → List ℕ
hex_word n = hex_byte (n / 256) ++ hex_byte (n % 256)

-- bytes, two digits each
unfoldable pub hex_bytes : List ℕ → List ℕ
hex_bytes [] = []
hex_bytes (b ∷ s) = hex_byte b ++ hex_bytes s
