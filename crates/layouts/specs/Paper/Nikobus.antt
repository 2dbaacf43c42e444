-- 01, Nikobus: "Three forms, hex digits upper case only."
-- Assumes nothing.
use Rattle.std.specs.Prelude.{List, [], ◌∷◌, ◌++◌, ◌≡◌, ℕ, ◌+◌, ◌*◌, ◌%◌, ◌≤◌, ◌<◌, T, length}
use Rattle.digits.specs.Paper.Ascii.{ascii}
use Rattle.digits.specs.Paper.Bytes.{Bytes}
use Rattle.digits.specs.Paper.Hex.{hex_byte, hex_bytes, hex_word}
use Rattle.digits.specs.Paper.LowFirst.{SixteenBits}
use Rattle.checks.specs.Paper.Buses.{nikobus_crc16, nikobus_crc8}
use Rattle.layouts.specs.Paper.Chars.{all, is_hex, CR}
use Rattle.layouts.specs.Paper.Layout.{Layout, Checked, compared_in, StartsWith}
use Rattle.layouts.specs.declared.Compared.{Compared}

-- a link's payload is the bytes that its digits are
pub data Nikobus : Type 0 where
  link : (payload : List ℕ) (crc16 crc8 : ℕ) → Nikobus
  press : (digits : List ℕ) → Nikobus
  tail : Nikobus

-- "payload of LL − 10 digits": two a byte
abbrev pub ll : List ℕ → ℕ
ll p = length p * 2 + 10

-- "Link: `$`, LL (two digits)"; "Press: `#N`"; "Tail: `#E1`, CR"
abbrev pub before : Nikobus → List ℕ
before (link p crc16 crc8) = ascii "$" ++ hex_byte (ll p)
before (press d) = ascii "#N"
before tail = ascii "#E1" ++ (CR ∷ [])

-- "payload of LL − 10 digits"; "six digits"; 01, Search: "Payload means: a link's digits, a press's six digits, ..; a
-- tail's is empty"
abbrev pub payload : Nikobus → List ℕ
payload (link p crc16 crc8) = hex_bytes p
payload (press d) = d
payload tail = []

-- "CRC16 (four), CRC8 (two), CR"; "CR"
abbrev pub behind : Nikobus → List ℕ
behind (link p crc16 crc8) = hex_word crc16 ++ hex_byte crc8 ++ (CR ∷ [])
behind (press d) = CR ∷ []
behind tail = []

-- "LL is even, 0x0C to 0xFE, so the payload is 1 to 122 bytes"
abbrev pub least_payload : ℕ
least_payload = 1

abbrev pub most_payload : ℕ
most_payload = 122

-- "Press: `#N`, six digits, CR"
abbrev pub press_digits : ℕ
press_digits = 6

-- "CRC16 (four), CRC8 (two)": digits
pub data Limits : Nikobus → Type 0 where
  link-limits : {p : List ℕ} {crc16 crc8 : ℕ} → least_payload ≤ length p → length p ≤ most_payload → Bytes p
      → SixteenBits crc16 → crc8 < 256 → Limits (link p crc16 crc8)
  press-limits : {d : List ℕ} → length d ≡ press_digits → T (all is_hex d) → Limits (press d)
  tail-limits : Limits tail

-- "the characters from `$` to the end of the CRC16"
abbrev pub link_checked : List ℕ → ℕ → List ℕ
link_checked p crc16 = ascii "$" ++ hex_byte (ll p) ++ hex_bytes p ++ hex_word crc16

-- "CRC16 covers the payload's bytes"
abbrev pub checked16 : List ℕ → ℕ → Checked
checked16 p crc16 = record { check = nikobus_crc16; bytes = p; value = crc16 }

-- "CRC8 covers the characters from `$` to the end of the CRC16"
abbrev pub checked8 : List ℕ → ℕ → ℕ → Checked
checked8 p crc16 crc8 = record { check = nikobus_crc8; bytes = link_checked p crc16; value = crc8 }

-- "Here both Nikobus checks are required"; 02, K1: "first check, second check (Nikobus: CRC16, then CRC8)"
abbrev pub compared : Nikobus → List Compared
compared (link p crc16 crc8) = compared_in (checked16 p crc16) ∷ compared_in (checked8 p crc16 crc8) ∷ []
compared (press d) = []
compared tail = []

-- 02, K1: "A place that lacks the whole start mark (as `$`, `#N`, `#E1` ..) fails at start"
pub data Begun (s : List ℕ) : Type 0 where
  link-begun : StartsWith (ascii "$") s → Begun s
  press-begun : StartsWith (ascii "#N") s → Begun s
  tail-begun : StartsWith (ascii "#E1") s → Begun s

-- 02, K1: "Too few bytes, an LL not of two digits or not allowed .. fail at length". 01: "LL is even, 0x0C to 0xFE ..
-- and the frame is LL bytes long"; a press has nine bytes, a tail four.
pub data Long (s : List ℕ) : Type 0 where
  link-long : {LL : ℕ} → LL % 2 ≡ 0 → 0x0C ≤ LL → LL ≤ 0xFE → StartsWith (ascii "$" ++ hex_byte LL) s
      → LL ≤ length s → Long s
  press-long : StartsWith (ascii "#N") s → 9 ≤ length s → Long s
  tail-long : StartsWith (ascii "#E1") s → 4 ≤ length s → Long s

abbrev pub nikobus : Layout
nikobus =
    record {
      Fields = Nikobus;
      Limits = Limits;
      before = before;
      payload = payload;
      behind = behind;
      compared = compared;
      Begun = Begun;
      Long = Long;
    }
