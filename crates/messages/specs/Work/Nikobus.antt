-- Nikobus frames and the digits of links, for the functions that read them.
-- Assumes nothing.
use Rattle.std.specs.Prelude.{List, ◌≡◌, ℕ, get_or}
use Rattle.digits.specs.Paper.Bytes.{Bytes, part}
use Rattle.digits.specs.Paper.Hex.{hex_bytes}
use Rattle.layouts.specs.Paper.Layout.{FrameBy}
use Rattle.layouts.specs.Paper.Nikobus.{nikobus, payload}
use Rattle.frames.specs.declared.kinds.Kind.TheVariants.{Nikobus}
use Rattle.messages.specs.Paper.Says.{six, of_nikobus, SaysNikobus}
use Rattle.messages.specs.Paper.Table.{BytesBetween, u16_at}
use Rattle.messages.specs.Paper.Content.{content_in}
use Rattle.messages.specs.Work.Look.{look_link, look}
use Rattle.messages.specs.declared.nikobus.Nikobus.{Nikobus as Coded}
use Rattle.messages.specs.declared.nikobus.Six.{Six}

-- f is a frame, and p its payload
pub record NikobusFrame (f p : List ℕ) : Type 0 where
  pub frame : FrameBy nikobus f
  pub is : p ≡ payload frame.form.fields

-- e says its message
pub record NikobusSaid (f p : List ℕ) (e : Coded) : Type 0 where
  pub frame : NikobusFrame f p
  pub says : SaysNikobus e p (look (content_in Nikobus frame.frame.form.fields))

-- d are the digits of a link's payload
pub record LinkDigits (d : List ℕ) : Type 0 where
  pub payload : List ℕ
  pub limits : BytesBetween 1 122 payload
  pub is : d ≡ hex_bytes payload

-- e is the message of that payload
pub record LinkSaid (d : List ℕ) (e : Coded) : Type 0 where
  pub link : LinkDigits d
  pub says : of_nikobus e link.payload ≡ look_link link.payload

-- Of the bytes that the digits d are: b is the byte of this number; n is the number that two bytes from there on are;
-- o is the six values of a module.
abbrev pub ByteAt : List ℕ → ℕ → ℕ → Type 0
ByteAt d i b = (p : List ℕ) → Bytes p → d ≡ hex_bytes p → b ≡ get_or p i 0

abbrev pub WordAt : List ℕ → ℕ → ℕ → Type 0
WordAt d i n = (p : List ℕ) → Bytes p → d ≡ hex_bytes p → n ≡ u16_at i p

abbrev pub SixAt : List ℕ → Six → Type 0
SixAt d o = (p : List ℕ) → Bytes p → d ≡ hex_bytes p → six o ≡ part 3 9 p
