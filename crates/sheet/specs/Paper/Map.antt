-- A register map (ours): a sheet as one byte a register, so that a lookup is an index. 0 says that the register is not
-- in the sheet, and 1 + 4 × type + decimals that it is, the types u8 s8 u16 s16 u32 s32 being 0 to 5.
-- Assumes nothing.
use Rattle.std.specs.Prelude.{Bool, true, false, cond, ◌&&◌, List, [], ◌∷◌, ℕ, zero, suc, ◌+◌, ◌-◌, ◌*◌, ◌/◌, ◌%◌, ◌^◌}
use Rattle.std.specs.Prelude.{leb, get_or}
use Rattle.std.proofs.Math.Option.{Option, none, some}
use Rattle.digits.specs.Paper.Bits.{is_set}
use Rattle.sheet.specs.Paper.Sheet.{RegisterType, Lookup}

-- ---- a type's byte

abbrev pub sign_number : Bool → ℕ
sign_number false = 0
sign_number true = 1

-- the widths 1, 2 and 4 give 0, 1 and 2
unfoldable pub type_number : ℕ → Bool → ℕ
type_number width signed = 2 * (width / 2) + sign_number signed

unfoldable pub type_byte : RegisterType → ℕ
type_byte t = 1 + 4 * type_number t.width t.signed + t.decimals

abbrev pub map_byte : Option RegisterType → ℕ
map_byte none = 0
map_byte (some t) = type_byte t

-- ---- and back

abbrev pub most_byte : ℕ
most_byte = 24

unfoldable pub type_of_byte : ℕ → RegisterType
type_of_byte b =
    record {
      width = 2 ^ ((b - 1) / 4 / 2);
      signed = is_set ((b - 1) / 4 % 2);
      decimals = (b - 1) % 4;
    }

unfoldable pub in_byte : ℕ → Option RegisterType
in_byte b = cond (leb 1 b && leb b most_byte) (some (type_of_byte b)) none

-- what a map says of a register: every byte string is a map. Beyond its end nothing is listed
unfoldable pub lookup_in : List ℕ → Lookup
lookup_in map register = in_byte (get_or map register 0)

-- the empty map is no sheet
abbrev pub sheet_in : List ℕ → Option Lookup
sheet_in [] = none
sheet_in (b ∷ map) = some (lookup_in (b ∷ map))

-- ---- the map of a sheet: a byte for each of the registers 0 to 65535

unfoldable pub bytes_from : ℕ → ℕ → Lookup → List ℕ
bytes_from zero register look = []
bytes_from (suc count) register look = map_byte (look register) ∷ bytes_from count (suc register) look

abbrev pub registers : ℕ
registers = 65536

unfoldable pub map_of : Lookup → List ℕ
map_of look = bytes_from registers 0 look
