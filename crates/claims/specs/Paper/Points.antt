-- 01, "Known points": "Proved, all in a single statement over a list". What a point can say, the list, and a second
-- list of points of document 02.
-- Assumes nothing.
use Rattle.std.specs.Prelude.{true, false, List, [], ◌∷◌, ◌++◌, ◌≡◌, ℕ, ℤ, pos, neg_ℤ, Ok}
use Rattle.digits.specs.Paper.Ascii.{ascii}
use Rattle.checks.specs.Paper.Bits.{bits_of_bytes, high_bit_first}
use Rattle.checks.specs.Paper.Buses.{nest_crc}
use Rattle.checks.specs.Paper.Check.{Check, check}
use Rattle.checks.specs.Paper.Stretch.{FitIn}
use Rattle.numbers.specs.Paper.Single.{fits_single}
use Rattle.numbers.specs.Paper.Text.{text}
use Rattle.layouts.specs.Paper.Chars.{CR, LF}
use Rattle.layouts.specs.Paper.Nest.{covered}
use Rattle.frames.specs.Paper.Kinds.{Frame}
use Rattle.frames.specs.Paper.Search.{Searches}
use Rattle.messages.specs.Paper.Answers.{Stands}
use Rattle.messages.specs.Paper.Message.{Message, read, link, command, ask, beat}
use Rattle.messages.specs.Paper.NextId.{next_id}
use Rattle.commands.specs.Paper.Acknowledge.{AcknowledgementOf}
use Rattle.book.specs.Paper.Book.{Book}

-- ---- what a point says

pub data Point : Type 0 where
  -- these bytes are a frame of the kind, and it is this message
  is : (kind : ℕ) (frame : List ℕ) → Message → Point
  -- the check of these bytes is this number
  checked : Check → (bytes : List ℕ) (value : ℕ) → Point
  -- the search from place 0 finds a frame of this length at this start
  found : (kind : ℕ) (buffer : List ℕ) (start len : ℕ) → Point
  -- these bytes are a frame of the kind; they are none
  passes : (kind : ℕ) (frame : List ℕ) → Point
  fails : (kind : ℕ) (bytes : List ℕ) → Point
  -- the acknowledgement of a frame
  acknowledged : (frame answer : List ℕ) → Point
  -- the ID of the frame after one with this ID
  follows : (id next : ℕ) → Point
  -- a raw number's text with this number of decimals
  written : (raw : ℤ) (decimals : ℕ) (text : List ℕ) → Point
  -- a raw number fits a single; it does not
  fits : ℤ → Point
  fits_not : ℤ → Point
  -- the book without entries
  empty : (book : List ℕ) → Point
  -- two Nest payloads have one CRC under each id, and their differing bits fit in a stretch of this length
  one-crc : (stretch : ℕ) (payload other : List ℕ) → Point

abbrev pub PointHolds : Point → Type 0
PointHolds (is k f m) = Stands k f m
PointHolds (checked c bytes v) = check c bytes ≡ v
PointHolds (found k s start len) =
    (from : ℕ) × (to : ℕ) × Searches k s 0 (Ok (record { start = start; len = len; from = from; to = to }))
PointHolds (passes k f) = Frame k f
PointHolds (fails k f) = Frame k f → ⊥
PointHolds (acknowledged f a) = AcknowledgementOf f a
PointHolds (follows i n) = next_id i ≡ n
PointHolds (written z d t) = text z d ≡ t
PointHolds (fits z) = fits_single z ≡ true
PointHolds (fits_not z) = fits_single z ≡ false
PointHolds (empty s) = Book s []
PointHolds (one-crc n p q) = ((id : ℕ) → check nest_crc (covered id p) ≡ check nest_crc (covered id q))
    × FitIn n (bits_of_bytes high_bit_first p) (bits_of_bytes high_bit_first q)

-- every point of a list holds
abbrev pub AllHold : List Point → Type 0
AllHold [] = Unit
AllHold (p ∷ later) = PointHolds p × AllHold later

-- ---- the list, (a) to (l)

abbrev pub points : List Point
points =
    -- (a) "`$10110000B8CF9D` CR is link"
    is 1 (ascii "$10110000B8CF9D" ++ (CR ∷ [])) (link (0x11 ∷ 0x00 ∷ 0x00 ∷ []))
    -- (b) "`$10120747402BFC` CR is read, group 1, 4707"
    ∷ is 1 (ascii "$10120747402BFC" ++ (CR ∷ [])) (read 1 0x4707)
    -- (c) "the reset frame above"
    ∷ is 2 (0xD5 ∷ 0xAA ∷ 0x96 ∷ 0xFF ∷ 0x00 ∷ 0x00 ∷ 0x00 ∷ 0xA3 ∷ 0x4B ∷ []) (command 0x00FF [])
    -- (d) "check 0xB208 above"
    ∷ checked nest_crc (0x82 ∷ 0x00 ∷ 0x02 ∷ 0x00 ∷ 0x00 ∷ 0x00 ∷ []) 0xB208
    -- (e) "`C0 69 02 44 9C DA` asks 40004"
    ∷ is 4 (0xC0 ∷ 0x69 ∷ 0x02 ∷ 0x44 ∷ 0x9C ∷ 0xDA ∷ []) (ask 40004)
    -- (f) "`C0 69 C0 69 02 64 00 66` has its frame at 2"
    ∷ found 4 (0xC0 ∷ 0x69 ∷ 0xC0 ∷ 0x69 ∷ 0x02 ∷ 0x64 ∷ 0x00 ∷ 0x66 ∷ []) 2 6
    -- (g) "`<;I.3;1;0H;0;42;s;134;>` passes, 143 doesn't"
    ∷ passes 5 (ascii "<;I.3;1;0H;0;42;s;134;>" ++ (CR ∷ LF ∷ []))
    ∷ fails 5 (ascii "<;I.3;1;0H;0;42;s;143;>" ++ (CR ∷ LF ∷ []))
    -- (h) "its acknowledgement has 64"
    ∷ acknowledged (ascii "<;I.3;1;0H;0;42;s;134;>" ++ (CR ∷ LF ∷ []))
    (ascii "<;I.3;1;0;0H;42;a;64;>" ++ (CR ∷ LF ∷ []))
    -- (i) "−5 with 2 decimals is `-0.05`"
    ∷ written (neg_ℤ (pos 5)) 2 (ascii "-0.05")
    -- (j) "16777216 and 4294967040 fit, 16777217 and 33554434 don't"
    ∷ fits (pos 16777216)
    ∷ fits (pos 4294967040)
    ∷ fits_not (pos 16777217)
    ∷ fits_not (pos 33554434)
    -- (k) "the empty book is `00 00 06 00 00 00`"
    ∷ empty (0x00 ∷ 0x00 ∷ 0x06 ∷ 0x00 ∷ 0x00 ∷ 0x00 ∷ [])
    -- (l) "Nest payloads `00 00 00` and `01 10 21`, same id, have one CRC: 17 bits is beyond demand 3"
    ∷ one-crc 17 (0x00 ∷ 0x00 ∷ 0x00 ∷ []) (0x01 ∷ 0x10 ∷ 0x21 ∷ [])
    ∷ []

-- ---- points of document 02, beside those of 01

abbrev pub later_points : List Point
later_points =
    -- K3: "ID 0 is to be accepted and written as `0`"
    is 5 (ascii "<;HB;1;0H;0;0;s;149;>" ++ (CR ∷ LF ∷ []))
    (beat (record { cmd = ascii "HB"; val = ascii "1"; src = ascii "0H"; dst = ascii "0"; id = 0; type = 115 }))
    ∷ acknowledged (ascii "<;HB;1;0H;0;0;s;149;>" ++ (CR ∷ LF ∷ []))
    (ascii "<;HB;1;0;0H;0;a;202;>" ++ (CR ∷ LF ∷ []))
    -- "the successor of 511 is 0"
    ∷ follows 511 0
    ∷ []
