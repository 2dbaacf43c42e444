-- 01, "Search, messages, commands": the table. A message's line gives the content of its frame; its bytes are those
-- of the layout.
-- Assumes nothing.
use Rattle.std.specs.Prelude.{true, cond, List, [], ◌∷◌, ◌++◌, ◌⊎◌, ◌≡◌, ℕ, ◌+◌, ◌*◌, ◌≤◌, ◌<◌, T, eqb, length, get_or}
use Rattle.digits.specs.Paper.Ascii.{ascii}
use Rattle.digits.specs.Paper.Bytes.{Bytes}
use Rattle.digits.specs.Paper.Decimal.{decimal}
use Rattle.digits.specs.Paper.LowFirst.{Held, SixteenBits, low_byte_first}
use Rattle.numbers.specs.Paper.ByteValues.{HeldBy, value_bytes}
use Rattle.layouts.specs.Paper.Chars.{all, is_hex, one_of}
use Rattle.layouts.specs.Paper.Homiq as homiqs
use Rattle.layouts.specs.Paper.Made.{Wire, homiq_of}
use Rattle.layouts.specs.Paper.Nest as nests
use Rattle.layouts.specs.Paper.Nibe as nibes
use Rattle.layouts.specs.Paper.Nikobus as nikobuses
use Rattle.messages.specs.Paper.Content.{Content, laid}
use Rattle.messages.specs.Paper.Content as content
use Rattle.messages.specs.Paper.Message.{Message, read, set, answer, press, tail, link, command, climate}
use Rattle.messages.specs.Paper.Message.{state, break, end, text, response, ask, reply, put, done, nibe}
use Rattle.messages.specs.Paper.Message.{output, input, shutter, beat, homiq, row}

-- "payload 12 or 17 (group 1, 2)", "15 or 16 (group 1, 2)": the code of a group
abbrev pub code_of : ℕ → ℕ → ℕ → ℕ
code_of first second group = cond (eqb group 1) first second

-- "Addresses and numbers are low byte first"; a value of 1, 2 or 4 bytes behind its register
abbrev pub valued : ℕ → ℕ → ℕ → List ℕ
valued register width value = low_byte_first 2 register ++ low_byte_first width value

-- the content of a message's frame, a line for each row
unfoldable pub content_of : Message → Content
content_of (read g a) = content.link (code_of 0x12 0x17 g ∷ low_byte_first 2 a)
content_of (set g a out) = content.link (code_of 0x15 0x16 g ∷ (low_byte_first 2 a ++ out ++ (0xFF ∷ [])))
content_of (answer a third out) = content.link (low_byte_first 2 a ++ (third ∷ out))
content_of (press d) = content.press d
content_of tail = content.tail
content_of (link p) = content.link p
content_of (command i p) = content.command i p
content_of (climate t h) = content.response 0x0002 (value_bytes 2 t ++ low_byte_first 2 h)
content_of (state p) = content.response 0x000B p
content_of break = content.response 0x0001 (ascii "BRK")
content_of end = content.response 0x002F []
content_of (text i p) = content.response i p
content_of (response i p) = content.response i p
content_of (ask r) = content.nibe 0x69 (low_byte_first 2 r)
content_of (reply r w v) = content.nibe 0x6A (valued r w v)
content_of (put r w v) = content.nibe 0x6B (valued r w v)
content_of (done ok) = content.nibe 0x6C (cond ok 0x01 0x00 ∷ [])
content_of (nibe c d) = content.nibe c d
content_of (output w) = content.homiq w
content_of (input w) = content.homiq w
content_of (shutter w) = content.homiq w
content_of (beat w) = content.homiq w
content_of (homiq w) = content.homiq w

-- the bytes of a message's frame
abbrev pub bytes : Message → List ℕ
bytes m = laid (content_of m)

-- ---- the limits of the fields

-- "group 1, 2"
abbrev pub Group : ℕ → Type 0
Group g = (g ≡ 1) ⊎ (g ≡ 2)

-- "six values"
pub record SixBytes (out : List ℕ) : Type 0 where
  pub six : length out ≡ 6
  pub bytes : Bytes out

-- a payload or data of `least` to `most` bytes
pub record BytesBetween (least most : ℕ) (p : List ℕ) : Type 0 where
  pub enough : least ≤ length p
  pub short : length p ≤ most
  pub bytes : Bytes p

-- "id 000B, 16 bytes or more"
abbrev pub least_state : ℕ
least_state = 16

-- "id 0001, 0018 or 0019"
abbrev pub text_ids : List ℕ
text_ids = 0x0001 ∷ 0x0018 ∷ 0x0019 ∷ []

-- "O.0 to O.9", "I.0 to I.15": a mark and behind it a number, at most `most`
pub record MarkedNumber (mark : List ℕ) (most : ℕ) (cmd : List ℕ) : Type 0 where
  pub number : ℕ
  pub few : number ≤ most
  pub is : cmd ≡ mark ++ decimal number

-- "with 0/1", "with u/d/s", "with 1": one character, one of these
pub record Letter (letters val : List ℕ) : Type 0 where
  pub letter : ℕ
  pub one : T (one_of letters letter)
  pub is : val ≡ letter ∷ []

-- a command and a value, in fields within Homiq's limits
pub record Sends (Cmd Val : List ℕ → Type 0) (w : Wire) : Type 0 where
  pub limits : homiqs.Limits (homiq_of w)
  pub cmd : Cmd w.cmd
  pub val : Val w.val

-- each message's limits: those of its layout, and of the table; addresses and registers have 16 bits
abbrev pub Limits : Message → Type 0
Limits (read g a) = Group g × SixteenBits a
Limits (set g a out) = Group g × SixteenBits a × SixBytes out
Limits (answer a third out) = SixteenBits a × (third < 256) × SixBytes out
Limits (press d) = (length d ≡ nikobuses.press_digits) × T (all is_hex d)
Limits tail = Unit
Limits (link p) = BytesBetween nikobuses.least_payload nikobuses.most_payload p
Limits (command i p) = SixteenBits i × BytesBetween nests.least_payload nests.most_payload p
Limits (climate t h) = HeldBy 2 true t × SixteenBits h
Limits (state p) = BytesBetween least_state nests.most_payload p
Limits break = Unit
Limits end = Unit
Limits (text i p) = T (one_of text_ids i) × BytesBetween nests.least_payload nests.most_payload p
Limits (response i p) = SixteenBits i × BytesBetween nests.least_payload nests.most_payload p
Limits (ask r) = SixteenBits r
Limits (reply r w v) = SixteenBits r × Held w v
Limits (put r w v) = SixteenBits r × Held w v
Limits (done ok) = Unit
Limits (nibe c d) = T (one_of nibes.commands c) × BytesBetween 0 nibes.most_data d
Limits (output w) = Sends (MarkedNumber (ascii "O.") 9) (Letter (ascii "01")) w
Limits (input w) = Sends (MarkedNumber (ascii "I.") 15) (Letter (ascii "01")) w
Limits (shutter w) = Sends (λ cmd. cmd ≡ ascii "UD") (Letter (ascii "uds")) w
Limits (beat w) = Sends (λ cmd. cmd ≡ ascii "HB") (Letter (ascii "1")) w
Limits (homiq w) = homiqs.Limits (homiq_of w)

-- "a value of 1, 2 or 4 bytes": the message has a value of this width
pub data HasWidth (m : Message) (w : ℕ) : Type 0 where
  in-reply : {r v : ℕ} → m ≡ reply r w v → HasWidth m w
  in-put : {r v : ℕ} → m ≡ put r w v → HasWidth m w

-- "a content that a message above them in the table has"
pub record Above (m : Message) : Type 0 where
  pub other : Message
  pub above : row other < row m
  pub limits : Limits other
  pub same : content_of other ≡ content_of m

-- what stands in the table: within its limits, and no message above has its content
pub record Good (m : Message) : Type 0 where
  pub limits : Limits m
  pub free : Above m → ⊥

-- "State's voltages are read from its payload": "Vin at 8 (hundredths), Vop at 10, Vbat at 12 (thousandths), u16",
-- low byte first
abbrev pub u16_at : ℕ → List ℕ → ℕ
u16_at i p = get_or p i 0 + 256 * get_or p (i + 1) 0

abbrev pub v_in : List ℕ → ℕ
v_in p = u16_at 8 p

abbrev pub v_op : List ℕ → ℕ
v_op p = u16_at 10 p

abbrev pub v_bat : List ℕ → ℕ
v_bat p = u16_at 12 p
