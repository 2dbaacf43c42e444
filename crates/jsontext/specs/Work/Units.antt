-- The code units of a string, as a reader goes through it: bytes by their first one, and no byte is tested. Of what is
-- no string it says something too.
-- Assumes nothing.
use Rattle.std.specs.Prelude.{cond, List, [], ◌∷◌, ◌++◌, ℕ, zero, suc, ◌+◌, ◌*◌, ◌/◌, ◌%◌, eqb, ltb, length, get_or}
use Rattle.std.specs.Prelude.{drop}

-- a hex digit's value
unfoldable pub hex_value : ℕ → ℕ
hex_value c = cond (ltb c 0x40) (c % 16) (c % 16 + 9)

-- what a character behind `\` means
unfoldable pub short_value : ℕ → ℕ
short_value c =
    cond (eqb c 0x62) 0x08
    (cond (eqb c 0x66) 0x0C (cond (eqb c 0x6E) 0x0A (cond (eqb c 0x72) 0x0D (cond (eqb c 0x74) 0x09 c))))

-- how many bytes the character at the head of s has
unfoldable pub size_of : List ℕ → ℕ
size_of s =
    cond (eqb (get_or s 0 0) 0x5C) (cond (eqb (get_or s 1 0) 0x75) 6 2)
    (cond (ltb (get_or s 0 0) 0x80) 1 (cond (ltb (get_or s 0 0) 0xE0) 2 (cond (ltb (get_or s 0 0) 0xF0) 3 4)))

-- behind `\`: `u` and four digits, or one character
unfoldable pub escape_of : List ℕ → ℕ
escape_of s =
    cond (eqb (get_or s 1 0) 0x75)
    (((hex_value (get_or s 2 0) * 16 + hex_value (get_or s 3 0)) * 16 + hex_value (get_or s 4 0)) * 16
    + hex_value (get_or s 5 0))
    (short_value (get_or s 1 0))

-- UTF-8 of two, three and four bytes
unfoldable pub two_of : List ℕ → ℕ
two_of s = get_or s 0 0 % 32 * 64 + get_or s 1 0 % 64

unfoldable pub three_of : List ℕ → ℕ
three_of s = get_or s 0 0 % 16 * 4096 + get_or s 1 0 % 64 * 64 + get_or s 2 0 % 64

unfoldable pub four_of : List ℕ → ℕ
four_of s = get_or s 0 0 % 8 * 262144 + get_or s 1 0 % 64 * 4096 + get_or s 2 0 % 64 * 64 + get_or s 3 0 % 64

-- the one unit of a character of less than four bytes, or of an escaped one
unfoldable pub code_of : List ℕ → ℕ
code_of s =
    cond (eqb (get_or s 0 0) 0x5C) (escape_of s)
    (cond (ltb (get_or s 0 0) 0x80) (get_or s 0 0) (cond (ltb (get_or s 0 0) 0xE0) (two_of s) (three_of s)))

-- the two units of a character of four bytes
abbrev pub high_of : ℕ → ℕ
high_of c = 0xD7C0 + c / 0x400

abbrev pub low_of : ℕ → ℕ
low_of c = 0xDC00 + c % 0x400

-- the units of the character at the head of s
unfoldable pub units_of : List ℕ → List ℕ
units_of s =
    cond (eqb (get_or s 0 0) 0x5C) (escape_of s ∷ [])
    (cond (ltb (get_or s 0 0) 0x80) (get_or s 0 0 ∷ [])
    (cond (ltb (get_or s 0 0) 0xE0) (two_of s ∷ [])
    (cond (ltb (get_or s 0 0) 0xF0) (three_of s ∷ [])
    (high_of (four_of s) ∷ low_of (four_of s) ∷ []))))

-- the units up to the quotation mark or the end, of at most so many characters
unfoldable pub units_in : ℕ → List ℕ → List ℕ
units_in zero s = []
units_in (suc most) [] = []
units_in (suc most) (b ∷ s) =
    cond (eqb b 0x22) [] (units_of (b ∷ s) ++ units_in most (drop (size_of (b ∷ s)) (b ∷ s)))

-- all of them
unfoldable pub units : List ℕ → List ℕ
units s = units_in (length s) s

-- the name of the member at the head of s, which begins with a quotation mark
unfoldable pub name_in : List ℕ → List ℕ
name_in s = units (drop 1 s)
