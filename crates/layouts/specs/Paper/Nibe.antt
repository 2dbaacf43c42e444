-- 01, Nibe: "C0, command, length, data, check."
-- Assumes nothing.
use Rattle.std.specs.Prelude.{List, [], ◌∷◌, ℕ, ◌+◌, ◌≤◌, ◌<◌, T, length, get_or}
use Rattle.digits.specs.Paper.Bytes.{Bytes}
use Rattle.checks.specs.Paper.Buses.{nibe_xor}
use Rattle.checks.specs.Paper.Xor.{xor_of}
use Rattle.layouts.specs.Paper.Chars.{one_of}
use Rattle.layouts.specs.Paper.Layout.{Layout, Checked, StartsWith}
use Rattle.layouts.specs.declared.Compared.{Compared}

-- (`data` is a word of the language)
pub record Nibe : Type 0 where
  pub command : ℕ
  pub content : List ℕ
  pub xor : ℕ

-- "Command is one of 60 62 68 69 6A 6B 6C"
abbrev pub commands : List ℕ
commands = 0x60 ∷ 0x62 ∷ 0x68 ∷ 0x69 ∷ 0x6A ∷ 0x6B ∷ 0x6C ∷ []

-- "C0, command, length"
abbrev pub before : Nibe → List ℕ
before m = 0xC0 ∷ m.command ∷ length m.content ∷ []

-- 01, Search: "Nibe's data"
abbrev pub payload : Nibe → List ℕ
payload m = m.content

-- "check"
abbrev pub behind : Nibe → List ℕ
behind m = m.xor ∷ []

-- "C0, command, length, data, check": the length is one byte
abbrev pub most_data : ℕ
most_data = 255

pub record Limits (m : Nibe) : Type 0 where
  pub command : T (one_of commands m.command)
  pub short : length m.content ≤ most_data
  pub bytes : Bytes m.content
  pub xor : m.xor < 256

-- "the length and the data"
abbrev pub covered : List ℕ → List ℕ
covered d = length d ∷ d

-- "The check is .. of the length and the data" (demand 3 reads it as the check of x^8 + 1, which is the XOR)
abbrev pub checked : Nibe → Checked
checked m = record { check = nibe_xor; bytes = covered m.content; value = m.xor }

-- "The check is the XOR of the length and the data; the command is not covered"
abbrev pub compared : Nibe → List Compared
compared m = record { found = (checked m).value; expected = xor_of (checked m).bytes } ∷ []

-- 02, K1: "A place that lacks the whole start mark .. fails at start"
abbrev pub Begun : List ℕ → Type 0
Begun s = StartsWith (0xC0 ∷ []) s

-- 02, K1: "Too few bytes .. fail at length": C0, command, length and check, and as many bytes as the length says. (If
-- the length itself is not there, there are fewer than four.)
abbrev pub Long : List ℕ → Type 0
Long s = get_or s 2 0 + 4 ≤ length s

abbrev pub nibe : Layout
nibe =
    record {
      Fields = Nibe;
      Limits = Limits;
      before = before;
      payload = payload;
      behind = behind;
      compared = compared;
      Begun = Begun;
      Long = Long;
    }
