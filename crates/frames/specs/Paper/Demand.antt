-- 01, demand 3: the checked bytes of a frame and the check value that stands in it.
-- Assumes nothing.
use Rattle.std.specs.Prelude.{List, ◌≡◌, ℕ}
use Rattle.std.proofs.Math.Option.{Option, none, some}
use Rattle.checks.specs.Paper.Bits.{BitOrder, high_bit_first, low_bit_first}
use Rattle.checks.specs.Paper.Check.{Check}
use Rattle.layouts.specs.Paper.Layout.{Checked}
use Rattle.layouts.specs.Paper.Nikobus as nikobuses
use Rattle.layouts.specs.Paper.Nest as nests
use Rattle.layouts.specs.Paper.Nibe as nibes
use Rattle.layouts.specs.Paper.Homiq as homiqs
use Rattle.frames.specs.Paper.Kinds.{layout_of, Frame}
use Rattle.frames.specs.declared.kinds.Kind.{Kind}
use Rattle.frames.specs.declared.kinds.Kind.TheVariants.{Nikobus, NestCommand, NestResponse, Nibe, Homiq}

-- "Demand 3's checked bytes are those the check covers (Nikobus: the payload's bytes, under CRC16)"; presses and tails
-- carry no check value
abbrev pub checked_in : (kind : Kind) → (layout_of kind).Fields → Option Checked
checked_in Nikobus (nikobuses.link p crc16 crc8) = some (nikobuses.checked16 p crc16)
checked_in Nikobus (nikobuses.press d) = none
checked_in Nikobus nikobuses.tail = none
checked_in NestCommand m = some (nests.checked m)
checked_in NestResponse m = some (nests.checked m)
checked_in Nibe m = some (nibes.checked m)
checked_in Homiq m = some (homiqs.checked m)

-- the fields of a frame that carries one: every frame of kinds 2 to 5 does, and every link
abbrev pub Carrying : (kind : Kind) → (layout_of kind).Fields → Type 0
Carrying Nikobus (nikobuses.link p crc16 crc8) = Unit
Carrying Nikobus (nikobuses.press d) = ⊥
Carrying Nikobus nikobuses.tail = ⊥
Carrying NestCommand m = Unit
Carrying NestResponse m = Unit
Carrying Nibe m = Unit
Carrying Homiq m = Unit

-- "a stretch of 16 consecutive bits (Nest; Nikobus, over its payload) or 8 (Nibe, Homiq)"
abbrev pub stretch : Kind → ℕ
stretch Nikobus = 16
stretch NestCommand = 16
stretch NestResponse = 16
stretch Nibe = 8
stretch Homiq = 8

-- "Their bits follow one another in the check's bit order; Nibe counts as high bit first"
abbrev pub bit_order : Kind → BitOrder
bit_order Nikobus = high_bit_first
bit_order NestCommand = high_bit_first
bit_order NestResponse = high_bit_first
bit_order Nibe = high_bit_first
bit_order Homiq = low_bit_first

-- the frame f of kind k carries a value of the check, over the bytes
pub record Carries (k : ℕ) (f : List ℕ) (c : Check) (bytes : List ℕ) (value : ℕ) : Type 0 where
  pub frame : Frame k f
  pub carries : checked_in frame.kind frame.frame.form.fields
      ≡ some (record { check = c; bytes = bytes; value = value })
