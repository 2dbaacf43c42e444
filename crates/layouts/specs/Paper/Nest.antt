-- 01, Nest: "Preamble D5 AA 96 (kind 2) or D5 D5 AA 96 (kind 3); id and length, 16 bits each, low byte first; payload
-- 0 to 1,024 bytes; CRC, low byte first, over id, length and payload".
-- Assumes nothing.
use Rattle.std.specs.Prelude.{List, [], ◌∷◌, ◌++◌, ℕ, ◌+◌, ◌*◌, ◌≤◌, length, get_or, drop}
use Rattle.digits.specs.Paper.Bytes.{Bytes}
use Rattle.digits.specs.Paper.LowFirst.{SixteenBits, low_byte_first}
use Rattle.checks.specs.Paper.Buses.{nest_crc}
use Rattle.layouts.specs.Paper.Layout.{Layout, Checked, compared_in, StartsWith}
use Rattle.layouts.specs.declared.Compared.{Compared}
use Rattle.layouts.specs.declared.nest.Direction.{Direction}
use Rattle.layouts.specs.declared.nest.Direction.TheVariants.{Command, Response}

pub record Nest : Type 0 where
  pub id : ℕ
  pub payload : List ℕ
  pub crc : ℕ

-- "Preamble D5 AA 96 (kind 2) or D5 D5 AA 96 (kind 3)"
abbrev pub preamble : Direction → List ℕ
preamble Command = 0xD5 ∷ 0xAA ∷ 0x96 ∷ []
preamble Response = 0xD5 ∷ 0xD5 ∷ 0xAA ∷ 0x96 ∷ []

-- the preamble, then "id and length, 16 bits each, low byte first"
abbrev pub before : List ℕ → Nest → List ℕ
before mark m = mark ++ low_byte_first 2 m.id ++ low_byte_first 2 (length m.payload)

-- 01, Search: "Nest's payload"
abbrev pub payload : Nest → List ℕ
payload m = m.payload

-- "CRC, low byte first"
abbrev pub behind : Nest → List ℕ
behind m = low_byte_first 2 m.crc

-- "payload 0 to 1,024 bytes"
abbrev pub least_payload : ℕ
least_payload = 0

abbrev pub most_payload : ℕ
most_payload = 1024

-- "id and length, 16 bits each"
pub record Limits (m : Nest) : Type 0 where
  pub id : SixteenBits m.id
  pub short : length m.payload ≤ most_payload
  pub bytes : Bytes m.payload
  pub crc : SixteenBits m.crc

-- "id, length and payload"
abbrev pub covered : ℕ → List ℕ → List ℕ
covered i p = low_byte_first 2 i ++ low_byte_first 2 (length p) ++ p

-- "CRC .. over id, length and payload"
abbrev pub checked : Nest → Checked
checked m = record { check = nest_crc; bytes = covered m.id m.payload; value = m.crc }

abbrev pub compared : Nest → List Compared
compared m = compared_in (checked m) ∷ []

-- 02, K1: "A place that lacks the whole start mark .. fails at start"
abbrev pub Begun : List ℕ → List ℕ → Type 0
Begun mark s = StartsWith mark s

-- the length, of the bytes behind the preamble: two for the id, then "low byte first"
abbrev pub claimed : List ℕ → ℕ
claimed u = get_or u 2 0 + get_or u 3 0 * 256

-- 02, K1: "Too few bytes .. and a Nest length above 1,024 fail at length": behind the preamble two bytes each for id,
-- length and CRC, and as many as the length says. (If id and length are not there, there are fewer than six.)
pub record Long (mark s : List ℕ) : Type 0 where
  pub short : claimed (drop (length mark) s) ≤ most_payload
  pub enough : length mark + (claimed (drop (length mark) s) + 6) ≤ length s

abbrev pub nest_with : List ℕ → Layout
nest_with mark =
    record {
      Fields = Nest;
      Limits = Limits;
      before = before mark;
      payload = payload;
      behind = behind;
      compared = compared;
      Begun = Begun mark;
      Long = Long mark;
    }

abbrev pub nest : Direction → Layout
nest d = nest_with (preamble d)
