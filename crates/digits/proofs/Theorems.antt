-- What the definitions of digits and bytes come to, for a reader.
-- Assumes nothing.
use mathlib.Core.Path.{◌≡◌}
use mathlib.Core.Bool.{◌&&◌, ◌||◌}
use mathlib.Core.List.{List}
use Prim.Native.Nat.{ℕ, suc, ◌^◌, ◌≤◌, ◌<◌}
use lib.Dec.{T, leb}
use lib.ListN.{length, get_or}
use Rattle.digits.specs.Paper.Bytes.{Bytes}
use Rattle.digits.specs.Paper.Hex.{hex_digit, hex_byte, hex_word, hex_bytes}
use Rattle.digits.specs.Paper.Decimal.{decimal}
use Rattle.digits.specs.Paper.LowFirst.{low_byte_first}
use Rattle.digits.proofs.Laws.Hex as hex
use Rattle.digits.proofs.Laws.Decimal as decimals
use Rattle.digits.proofs.Laws.LowFirst as low

-- A HEX DIGIT IS UPPER CASE: `0` to `9` or `A` to `F`
pub upper-case : (v : ℕ) → v < 16 → T ((leb 48 (hex_digit v) && leb (hex_digit v) 57) || (leb 65 (hex_digit v) && leb (hex_digit v) 70))
upper-case = hex.digit-upper

-- NO TWO VALUES ARE WRITTEN ALIKE: as a hex digit, as two, as four, as many; in decimal; in bytes of one width
pub one-hex-digit : (u v : ℕ) → u < 16 → v < 16 → hex_digit u ≡ hex_digit v → u ≡ v
one-hex-digit = hex.digit-inj

pub one-hex-byte : (u v : ℕ) → u < 256 → v < 256 → hex_byte u ≡ hex_byte v → u ≡ v
one-hex-byte = hex.byte-inj

pub one-hex-word : (u v : ℕ) → u < 65536 → v < 65536 → hex_word u ≡ hex_word v → u ≡ v
one-hex-word = hex.word-inj

pub one-hex : (s t : List ℕ) → Bytes s → Bytes t → hex_bytes s ≡ hex_bytes t → s ≡ t
one-hex = hex.hex-inj

pub one-decimal : (m n : ℕ) → decimal m ≡ decimal n → m ≡ n
one-decimal = decimals.decimal-inj

pub one-low-first : (width u v : ℕ) → u < 256 ^ width → v < 256 ^ width → low_byte_first width u ≡ low_byte_first width v → u ≡ v
one-low-first = low.low-inj

-- DECIMAL DIGITS ARE `0` TO `9`, WITHOUT LEADING ZEROS, and k are enough for a number below 10 ^ k
pub decimal-digits : (n i : ℕ) → i < length (decimal n) → (48 ≤ get_or (decimal n) i 0) × (get_or (decimal n) i 0 ≤ 57)
decimal-digits = decimals.chars-digits

pub decimal-no-leading-zero : (n : ℕ) → 0 < n → 48 < get_or (decimal n) 0 0
decimal-no-leading-zero = decimals.no-leading-zero

pub decimal-short : (k n : ℕ) → n < 10 ^ suc k → length (decimal n) ≤ suc k
decimal-short = decimals.length-decimal

-- ALL BYTES OF A WIDTH ARE A NUMBER'S
pub low-first-all : (s : List ℕ) → Bytes s → (n : ℕ) × (n < 256 ^ length s) × (low_byte_first (length s) n ≡ s)
low-first-all = low.low-all
