-- The edges of document 01's limits: for each the last that is right, and the first that is wrong. A limit that is
-- misread alike in its definition and in the code is proved; here document 01's own numbers stand beside the
-- definitions.
-- Assumes nothing.
use Rattle.std.specs.Prelude.{Bool, true, false, List, [], ◌∷◌, ◌++◌, ◌≡◌, ℕ, ℤ, pos, neg_ℤ, replicate, Err}
use Rattle.std.proofs.Math.Option.{none}
use Rattle.digits.specs.Paper.Ascii.{ascii}
use Rattle.digits.specs.Paper.LowFirst.{Width}
use Rattle.digits.specs.declared.refusal.Refusal.TheVariants.{NoFrame}
use Rattle.numbers.specs.Paper.ByteValues as values
use Rattle.numbers.specs.Paper.Single.{fits_single}
use Rattle.numbers.specs.Paper.Text.{InLimits}
use Rattle.json_values.specs.Paper.Json.{escaped}
use Rattle.layouts.specs.Paper.Chars.{CR, LF}
use Rattle.layouts.specs.Paper.Made.{Wire}
use Rattle.layouts.specs.Paper.Nikobus as nikobuses
use Rattle.frames.specs.Paper.Kinds.{layout_of, number_of, known, Frame}
use Rattle.frames.specs.Paper.Search.{Searches}
use Rattle.frames.specs.declared.kinds.Kind.{Kind}
use Rattle.frames.specs.declared.kinds.Kind.TheVariants.{Nikobus, NestCommand, NestResponse, Nibe, Homiq}
use Rattle.messages.specs.Paper.Message.{Message, read, set, answer, press, link, command, climate, state, text}
use Rattle.messages.specs.Paper.Message.{response, ask, reply, put, nibe, output, input, shutter, beat}
use Rattle.messages.specs.Paper.Table.{bytes, Limits}
use Rattle.list.specs.Paper.Listing.{Lists, Input, NoSheet, Listing}
use Rattle.book.specs.Paper.Book.{Entry, Within, EntryAt}

-- ---- what can be right or wrong

pub data Fact : Type 0 where
  -- these bytes are a frame of the kind
  frame : (bus : Kind) (f : List ℕ) → Fact
  -- the fields of a frame, its check values among them, are within their limits
  fields : (bus : Kind) → (layout_of bus).Fields → Fact
  -- the message is within its limits
  message : Message → Fact
  -- there is a kind with this number
  kind : ℕ → Fact
  -- a raw number with this number of decimals is within its limits
  number : (raw : ℤ) (decimals : ℕ) → Fact
  -- a raw number fits a single
  single : ℤ → Fact
  -- bytes of this width, signed or not, hold the number; and there are values of this width
  value : (width : ℕ) (signed : Bool) → ℤ → Fact
  width : ℕ → Fact
  -- in a string of the JSON a byte stands for itself
  plain : (byte : ℕ) → Fact
  -- the listing of this input is of its capture, and no refusal
  listed : (whole : List ℕ) → Fact
  -- the search from the place says that there is no frame
  none_from : (kind : ℕ) (buffer : List ℕ) (place : ℕ) → Fact
  -- the entries make a book; it has one with this number
  makes-book : List Entry → Fact
  has-entry : List Entry → ℕ → Fact

pub record Listed (s : List ℕ) : Type 0 where
  pub text : List ℕ
  pub listing : Listing NoSheet s text
  pub input : Input s
  pub lists : Lists none input.kind input.capture text

abbrev pub Right : Fact → Type 0
Right (frame bus f) = Frame (number_of bus) f
Right (fields bus m) = (layout_of bus).Limits m
Right (message m) = Limits m
Right (kind k) = known k ≡ true
Right (number z d) = InLimits (record { raw = z; decimals = d })
Right (single z) = fits_single z ≡ true
Right (value w signed z) = values.HeldBy w signed z
Right (width w) = Width w
Right (plain b) = escaped b ≡ b ∷ []
Right (listed s) = Listed s
Right (none_from k s place) = Searches k s place (Err NoFrame)
Right (makes-book es) = Within es
Right (has-entry es n) = (e : Entry) × (offset : ℕ) × EntryAt es n e offset

-- ---- edges

-- what is right, and what is wrong
pub record Edge : Type 0 where
  pub right : Fact
  pub wrong : Fact

infixl 70 ◌but-not◌
abbrev pub ◌but-not◌ : Fact → Fact → Edge
a but-not b = record { right = a; wrong = b }

pub record EdgeHolds (e : Edge) : Type 0 where
  pub right : Right e.right
  pub wrong : Right e.wrong → ⊥

abbrev pub AllHold : List Edge → Type 0
AllHold [] = Unit
AllHold (e ∷ later) = EdgeHolds e × AllHold later

-- ---- examples of which one part is changed

-- n bytes, and n characters
abbrev pub zeros : ℕ → List ℕ
zeros n = replicate n 0

abbrev letters : ℕ → List ℕ
letters n = replicate n 0x41

abbrev line : List ℕ → List ℕ
line t = t ++ (CR ∷ [])

abbrev linked : (payload : List ℕ) (crc16 crc8 : ℕ) → Fact
linked p crc16 crc8 = fields Nikobus (nikobuses.link p crc16 crc8)

abbrev pressed : List ℕ → Fact
pressed d = fields Nikobus (nikobuses.press d)

abbrev nest : (id : ℕ) (payload : List ℕ) (crc : ℕ) → Fact
nest id p crc = fields NestResponse (record { id = id; payload = p; crc = crc })

-- the two preambles, and what stands behind that of the reset frame
abbrev short : List ℕ
short = 0xD5 ∷ 0xAA ∷ 0x96 ∷ []

abbrev long : List ℕ
long = 0xD5 ∷ 0xD5 ∷ 0xAA ∷ 0x96 ∷ []

abbrev reset : List ℕ
reset = 0xFF ∷ 0x00 ∷ 0x00 ∷ 0x00 ∷ 0xA3 ∷ 0x4B ∷ []

abbrev nibes : (command : ℕ) (content : List ℕ) (xor : ℕ) → Fact
nibes c d xor = fields Nibe (record { command = c; content = d; xor = xor })

-- a Nibe frame that asks for a register, with this check byte
abbrev asked : ℕ → Fact
asked xor = frame Nibe (0xC0 ∷ 0x69 ∷ 0x02 ∷ 0x64 ∷ 0x00 ∷ xor ∷ [])

abbrev homiqs : (cmd val src dst : List ℕ) (id type crc : ℕ) → Fact
homiqs cmd val src dst id type crc =
    fields Homiq (record { cmd = cmd; val = val; src = src; dst = dst; id = id; type = type; crc = crc })

-- one field of Homiq's, with the others right
abbrev cmd : List ℕ → Fact
cmd t = homiqs t (ascii "1") (ascii "0H") (ascii "0") 42 0x73 0

abbrev val : List ℕ → Fact
val t = homiqs (ascii "I.3") t (ascii "0H") (ascii "0") 42 0x73 0

abbrev src : List ℕ → Fact
src t = homiqs (ascii "I.3") (ascii "1") t (ascii "0") 42 0x73 0

abbrev dst : List ℕ → Fact
dst t = homiqs (ascii "I.3") (ascii "1") (ascii "0H") t 42 0x73 0

abbrev crc : ℕ → Fact
crc n = homiqs (ascii "I.3") (ascii "1") (ascii "0H") (ascii "0") 42 0x73 n

-- a Homiq frame, given up to `>`
abbrev sent : List ℕ → Fact
sent t = frame Homiq (t ++ (CR ∷ LF ∷ []))

abbrev wire : (cmd val : List ℕ) → Wire
wire cmd val = record { cmd = cmd; val = val; src = ascii "0H"; dst = ascii "0"; id = 42; type = 0x73 }

-- an entry with a tail; one with a Nest command of n bytes
abbrev pub tail_entry : Entry
tail_entry = record { kind = 1; frame = line (ascii "#E1") }

abbrev pub command_entry : ℕ → Entry
command_entry n = record { kind = 2; frame = bytes (command 0 (zeros n)) }

-- 62 of the longest, one of 509 bytes, and one of n bytes
abbrev pub command_entries : ℕ → List Entry
command_entries n = replicate 62 (command_entry 1024) ++ (command_entry 509 ∷ command_entry n ∷ [])

-- an input of kind 1 with a capture of n bytes
abbrev pub whole_input : ℕ → List ℕ
whole_input n = ascii "1" ++ (LF ∷ zeros n)

-- ---- the list

-- "Kinds and frames"
abbrev pub frame_edges : List Edge
frame_edges =
    -- "A kind is .. 1 Nikobus, 2 Nest command, 3 Nest response, 4 Nibe, 5 Homiq"
    kind 1 but-not kind 0
    ∷ kind 5 but-not kind 6
    -- Nikobus: "hex digits upper case only": `0` to `9`, `A` to `F`
    ∷ pressed (ascii "012389") but-not pressed (ascii "01238/")
    ∷ pressed (ascii "012389") but-not pressed (ascii "01238:")
    ∷ pressed (ascii "ABCDEF") but-not pressed (ascii "@BCDEF")
    ∷ pressed (ascii "ABCDEF") but-not pressed (ascii "ABCDEG")
    ∷ frame Nikobus (line (ascii "#N0A1B2C")) but-not frame Nikobus (line (ascii "#N0a1B2C"))
    -- "LL is even, 0x0C to 0xFE, so the payload is 1 to 122 bytes"
    ∷ frame Nikobus (line (ascii "$0C00E1F021")) but-not frame Nikobus (line (ascii "$0AFFFF69"))
    ∷ frame Nikobus (line (ascii "$0E00001D0FBB")) but-not frame Nikobus (line (ascii "$0D000E1F049"))
    ∷ linked (zeros 1) 0 0 but-not linked (zeros 0) 0 0
    ∷ linked (zeros 122) 0 0 but-not linked (zeros 123) 0 0
    -- "payload's bytes"; "CRC16 (four), CRC8 (two)": digits
    ∷ linked (0xFF ∷ []) 0 0 but-not linked (0x100 ∷ []) 0 0
    ∷ linked (zeros 1) 0xFFFF 0 but-not linked (zeros 1) 0x10000 0
    ∷ linked (zeros 1) 0 0xFF but-not linked (zeros 1) 0 0x100
    -- "Press: `#N`, six digits, CR. Tail: `#E1`, CR"
    ∷ frame Nikobus (line (ascii "#N012345")) but-not frame Nikobus (line (ascii "#N01234"))
    ∷ pressed (ascii "012345") but-not pressed (ascii "0123456")
    ∷ frame Nikobus (line (ascii "#E1")) but-not frame Nikobus (line (ascii "#E2"))
    ∷ frame Nikobus (ascii "#E1" ++ (0x0D ∷ [])) but-not frame Nikobus (ascii "#E1" ++ (0x0A ∷ []))
    -- Nest: "Preamble D5 AA 96 (kind 2) or D5 D5 AA 96 (kind 3)"
    ∷ frame NestCommand (short ++ reset) but-not frame NestCommand (long ++ reset)
    ∷ frame NestResponse (long ++ reset) but-not frame NestResponse (short ++ reset)
    -- "id and length, 16 bits each"; "payload 0 to 1,024 bytes"
    ∷ nest 0xFFFF [] 0 but-not nest 0x10000 [] 0
    ∷ nest 0 (zeros 0) 0 but-not nest 0 (zeros 1025) 0
    ∷ nest 0 (zeros 1024) 0 but-not nest 0 (zeros 1025) 0
    ∷ nest 0 (0xFF ∷ []) 0xFFFF but-not nest 0 (0x100 ∷ []) 0
    ∷ nest 0 [] 0xFFFF but-not nest 0 [] 0x10000
    -- Nibe: "Command is one of 60 62 68 69 6A 6B 6C"
    ∷ nibes 0x60 [] 0 but-not nibes 0x5F [] 0
    ∷ nibes 0x62 [] 0 but-not nibes 0x61 [] 0
    ∷ nibes 0x62 [] 0 but-not nibes 0x63 [] 0
    ∷ nibes 0x68 [] 0 but-not nibes 0x67 [] 0
    ∷ nibes 0x69 [] 0 but-not nibes 0x64 [] 0
    ∷ nibes 0x6A [] 0 but-not nibes 0x65 [] 0
    ∷ nibes 0x6B [] 0 but-not nibes 0x66 [] 0
    ∷ nibes 0x6C [] 0 but-not nibes 0x6D [] 0
    -- "C0, command, length, data, check": a byte for the length, and one for the check
    ∷ nibes 0x68 (zeros 0) 0 but-not nibes 0x68 (zeros 256) 0
    ∷ nibes 0x68 (zeros 255) 0 but-not nibes 0x68 (zeros 256) 0
    ∷ nibes 0x68 (0xFF ∷ []) 0xFF but-not nibes 0x68 (0x100 ∷ []) 0xFF
    ∷ nibes 0x68 [] 0xFF but-not nibes 0x68 [] 0x100
    -- "The check is the XOR of the length and the data; the command is not covered"
    ∷ asked 0x66 but-not asked 0x0F
    ∷ asked 0x66 but-not asked 0x64
    -- Homiq: "CMD 1 to 8, VAL 1 to 16, SRC and DST 1 to 4"
    ∷ cmd (letters 1) but-not cmd (letters 0)
    ∷ cmd (letters 8) but-not cmd (letters 9)
    ∷ val (letters 1) but-not val (letters 0)
    ∷ val (letters 16) but-not val (letters 17)
    ∷ src (letters 1) but-not src (letters 0)
    ∷ src (letters 4) but-not src (letters 5)
    ∷ dst (letters 1) but-not dst (letters 0)
    ∷ dst (letters 4) but-not dst (letters 5)
    -- "Their characters are 0x21 to 0x7E without `;`, `<`, `>`": 0x3B, 0x3C, 0x3E
    ∷ cmd (0x21 ∷ []) but-not cmd (0x20 ∷ [])
    ∷ val (0x7E ∷ []) but-not val (0x7F ∷ [])
    ∷ src (0x3A ∷ []) but-not src (0x3B ∷ [])
    ∷ dst (0x3D ∷ []) but-not dst (0x3C ∷ [])
    ∷ cmd (0x3F ∷ []) but-not cmd (0x3E ∷ [])
    -- "ID is .., decimal without leading zeros"; 02, K3: "ID 0 is to be accepted"; "512 is still no frame"
    ∷ sent (ascii "<;I.3;1;0H;0;0;s;42;>") but-not sent (ascii "<;I.3;1;0H;0;00;s;137;>")
    ∷ sent (ascii "<;I.3;1;0H;0;511;s;42;>") but-not sent (ascii "<;I.3;1;0H;0;512;s;127;>")
    ∷ sent (ascii "<;I.3;1;0H;0;42;s;134;>") but-not sent (ascii "<;I.3;1;0H;0;042;s;203;>")
    -- "CRC 0 to 255"
    ∷ crc 0 but-not crc 256
    ∷ crc 255 but-not crc 256
    -- "TYPE is `s` or `a`"
    ∷ sent (ascii "<;I.3;1;0H;0;42;s;134;>") but-not sent (ascii "<;I.3;1;0H;0;42;t;5;>")
    ∷ sent (ascii "<;I.3;1;0H;0;42;a;167;>") but-not sent (ascii "<;I.3;1;0H;0;42;b;69;>")
    ∷ []

-- "Search, messages, commands": the table
abbrev pub message_edges : List Edge
message_edges =
    -- read "payload 12 or 17 (group 1, 2), address"
    message (read 1 0) but-not message (read 0 0)
    ∷ message (read 2 0) but-not message (read 3 0)
    ∷ message (read 1 0xFFFF) but-not message (read 1 0x10000)
    -- set "15 or 16 (group 1, 2), address, six values, FF"
    ∷ message (set 1 0 (zeros 6)) but-not message (set 0 0 (zeros 6))
    ∷ message (set 2 0 (zeros 6)) but-not message (set 3 0 (zeros 6))
    ∷ message (set 1 0xFFFF (zeros 6)) but-not message (set 1 0x10000 (zeros 6))
    ∷ message (set 1 0 (zeros 6)) but-not message (set 1 0 (zeros 5))
    ∷ message (set 1 0 (zeros 6)) but-not message (set 1 0 (zeros 7))
    -- answer "nine bytes: address, one byte kept, six values"
    ∷ message (answer 0xFFFF 0 (zeros 6)) but-not message (answer 0x10000 0 (zeros 6))
    ∷ message (answer 0 0xFF (zeros 6)) but-not message (answer 0 0x100 (zeros 6))
    ∷ message (answer 0 0 (zeros 6)) but-not message (answer 0 0 (zeros 5))
    ∷ message (answer 0 0 (zeros 6)) but-not message (answer 0 0 (zeros 7))
    -- press, "six digits"
    ∷ message (press (ascii "012345")) but-not message (press (ascii "01234"))
    ∷ message (press (ascii "012345")) but-not message (press (ascii "0123456"))
    -- link, "the payload is 1 to 122 bytes"
    ∷ message (link (zeros 1)) but-not message (link (zeros 0))
    ∷ message (link (zeros 122)) but-not message (link (zeros 123))
    -- command, "id .. 16 bits", "payload 0 to 1,024 bytes"
    ∷ message (command 0xFFFF (zeros 0)) but-not message (command 0x10000 (zeros 0))
    ∷ message (command 0 (zeros 1024)) but-not message (command 0 (zeros 1025))
    -- climate "temperature s16 .., humidity u16"
    ∷ message (climate (pos 32767) 0) but-not message (climate (pos 32768) 0)
    ∷ message (climate (neg_ℤ (pos 32768)) 0) but-not message (climate (neg_ℤ (pos 32769)) 0)
    ∷ message (climate (pos 0) 0xFFFF) but-not message (climate (pos 0) 0x10000)
    -- state "16 bytes or more"
    ∷ message (state (zeros 16)) but-not message (state (zeros 15))
    ∷ message (state (zeros 1024)) but-not message (state (zeros 1025))
    -- text "id 0001, 0018 or 0019"
    ∷ message (text 0x0001 []) but-not message (text 0x0000 [])
    ∷ message (text 0x0001 []) but-not message (text 0x0002 [])
    ∷ message (text 0x0018 []) but-not message (text 0x0017 [])
    ∷ message (text 0x0019 []) but-not message (text 0x001A [])
    ∷ message (text 0x0001 (zeros 1024)) but-not message (text 0x0001 (zeros 1025))
    -- response "the rest"
    ∷ message (response 0xFFFF (zeros 0)) but-not message (response 0x10000 (zeros 0))
    ∷ message (response 0 (zeros 1024)) but-not message (response 0 (zeros 1025))
    -- ask "two bytes: register"; reply, put "register and a value of 1, 2 or 4 bytes"
    ∷ message (ask 0xFFFF) but-not message (ask 0x10000)
    ∷ message (reply 0xFFFF 1 0xFF) but-not message (reply 0x10000 1 0xFF)
    ∷ message (reply 0 1 0xFF) but-not message (reply 0 1 0x100)
    ∷ message (reply 0 2 0xFFFF) but-not message (reply 0 3 0xFFFF)
    ∷ message (put 0xFFFF 1 0xFF) but-not message (put 0x10000 1 0xFF)
    ∷ message (put 0 2 0xFFFF) but-not message (put 0 2 0x10000)
    ∷ message (put 0 4 0xFFFFFFFF) but-not message (put 0 4 0x100000000)
    -- nibe, Nibe's length
    ∷ message (nibe 0x68 (zeros 255)) but-not message (nibe 0x68 (zeros 256))
    -- "O.0 to O.9 with 0/1"
    ∷ message (output (wire (ascii "O.0") (ascii "0"))) but-not message (output (wire (ascii "O.") (ascii "0")))
    ∷ message (output (wire (ascii "O.9") (ascii "1"))) but-not message (output (wire (ascii "O.10") (ascii "1")))
    ∷ message (output (wire (ascii "O.9") (ascii "1"))) but-not message (output (wire (ascii "O.9") (ascii "2")))
    -- "I.0 to I.15 with 0/1"
    ∷ message (input (wire (ascii "I.0") (ascii "0"))) but-not message (input (wire (ascii "I.00") (ascii "0")))
    ∷ message (input (wire (ascii "I.15") (ascii "1"))) but-not message (input (wire (ascii "I.16") (ascii "1")))
    ∷ message (input (wire (ascii "I.15") (ascii "1"))) but-not message (input (wire (ascii "I.15") (ascii "2")))
    -- "UD with u/d/s"; "HB with 1"
    ∷ message (shutter (wire (ascii "UD") (ascii "u"))) but-not message (shutter (wire (ascii "UD") (ascii "t")))
    ∷ message (shutter (wire (ascii "UD") (ascii "d"))) but-not message (shutter (wire (ascii "UD") (ascii "U")))
    ∷ message (shutter (wire (ascii "UD") (ascii "s"))) but-not message (shutter (wire (ascii "DU") (ascii "s")))
    ∷ message (beat (wire (ascii "HB") (ascii "1"))) but-not message (beat (wire (ascii "HB") (ascii "0")))
    ∷ []

-- "Numbers", and the strings of a line
abbrev pub number_edges : List Edge
number_edges =
    -- "A raw number is −2,147,483,648 to 4,294,967,295, with 0 to 3 decimals"
    number (neg_ℤ (pos 2147483648)) 0 but-not number (neg_ℤ (pos 2147483649)) 0
    ∷ number (pos 4294967295) 0 but-not number (pos 4294967296) 0
    ∷ number (pos 0) 3 but-not number (pos 0) 4
    -- "Byte values have width 1, 2 or 4, signed (two's complement) or not"
    ∷ width 1 but-not width 0
    ∷ width 2 but-not width 3
    ∷ width 4 but-not width 5
    ∷ value 1 false (pos 0) but-not value 1 false (neg_ℤ (pos 1))
    ∷ value 1 false (pos 255) but-not value 1 false (pos 256)
    ∷ value 2 false (pos 65535) but-not value 2 false (pos 65536)
    ∷ value 4 false (pos 4294967295) but-not value 4 false (pos 4294967296)
    ∷ value 1 true (pos 127) but-not value 1 true (pos 128)
    ∷ value 1 true (neg_ℤ (pos 128)) but-not value 1 true (neg_ℤ (pos 129))
    ∷ value 2 true (pos 32767) but-not value 2 true (pos 32768)
    ∷ value 2 true (neg_ℤ (pos 32768)) but-not value 2 true (neg_ℤ (pos 32769))
    ∷ value 4 true (pos 2147483647) but-not value 4 true (pos 2147483648)
    ∷ value 4 true (neg_ℤ (pos 2147483648)) but-not value 4 true (neg_ℤ (pos 2147483649))
    -- "the bits of its magnitude, without leading and trailing zeros, number at most 24"
    ∷ single (pos 16777215) but-not single (pos 16777217)
    ∷ single (neg_ℤ (pos 16777215)) but-not single (neg_ℤ (pos 33554431))
    -- JSON: "with `"` and `\` escaped by `\` and bytes outside 0x20 to 0x7E as `\u00` and two upper-case digits"
    ∷ plain 0x20 but-not plain 0x1F
    ∷ plain 0x7E but-not plain 0x7F
    ∷ plain 0x21 but-not plain 0x22
    ∷ plain 0x23 but-not plain 0x22
    ∷ plain 0x5B but-not plain 0x5C
    ∷ plain 0x5D but-not plain 0x5C
    ∷ []

-- places of a buffer, the listing program, and "The capture book"
abbrev pub place_edges : List Edge
place_edges =
    -- 3 "place beyond the buffer's length"; "The place equal to the length gives 1"
    none_from 4 (0xC0 ∷ []) 1 but-not none_from 4 (0xC0 ∷ []) 2
    -- "a digit 1 to 5, LF, then the capture; 65,536 bytes in all"
    ∷ listed (whole_input 65534) but-not listed (whole_input 65535)
    -- 3 "entry number not below the count"
    ∷ has-entry (tail_entry ∷ tail_entry ∷ []) 1 but-not has-entry (tail_entry ∷ tail_entry ∷ []) 2
    -- "at most 1,000 entries"
    ∷ makes-book (replicate 1000 tail_entry) but-not makes-book (replicate 1001 tail_entry)
    -- "and 65,536 bytes": 1,040 for each of 62 commands of 1,024 bytes, 525 or 526 for one of 509 or 510, and six
    ∷ makes-book (command_entries 509) but-not makes-book (command_entries 510)
    ∷ []

abbrev pub edges : List Edge
edges = frame_edges ++ (message_edges ++ (number_edges ++ place_edges))
