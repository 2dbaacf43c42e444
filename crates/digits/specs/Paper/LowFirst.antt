-- 01, Messages: "Addresses and numbers are low byte first"; Numbers: "Byte values have width 1, 2 or 4".
-- Assumes nothing.
use Rattle.std.specs.Prelude.{ℕ, zero, suc, ◌+◌, ◌*◌, ◌/◌, ◌%◌, ◌^◌, ◌<◌, List, [], ◌∷◌}

-- the widths that there are
pub data Width : ℕ → Type 0 where
  one : Width 1
  two : Width 2
  four : Width 4

-- n is a number of `width` bytes
pub record Held (width n : ℕ) : Type 0 where
  pub known : Width width
  pub below : n < 256 ^ width

-- 01, Nest: "16 bits each"; Messages: "u16"
abbrev pub SixteenBits : ℕ → Type 0
SixteenBits n = n < 65536

-- the number n in `width` bytes, low byte first
unfoldable pub low_byte_first : ℕ → ℕ → List ℕ
low_byte_first zero n = []
low_byte_first (suc width) n = n % 256 ∷ low_byte_first width (n / 256)

-- and the number that such bytes are
unfoldable pub low_value : List ℕ → ℕ
low_value [] = 0
low_value (b ∷ s) = b + low_value s * 256
