-- 01, Messages: "The acknowledgement of a Homiq frame of type `s` exchanges SRC and DST, sets `a` and works out the
-- CRC; of type `a` it is refused with 5."
-- Assumes nothing.
use Rattle.std.specs.Prelude.{List, ◌≡◌, ℕ, ◌<◌, length}
use Rattle.puts.specs.Paper.Wrote.{Written}
use Rattle.layouts.specs.Paper.Homiq as homiqs
use Rattle.layouts.specs.Paper.Layout.{bytes_of}
use Rattle.layouts.specs.Paper.Made.{Wire, homiq_of}
use Rattle.puts.specs.Paper.Right.{WritesRight}

-- f is the Homiq frame with these fields
pub record FrameOf (f : List ℕ) (w : Wire) : Type 0 where
  pub limits : homiqs.Limits (homiq_of w)
  pub frame : f ≡ bytes_of homiqs.homiq (homiq_of w)

-- the type `a`
abbrev pub type_a : ℕ
type_a = 97

-- "exchanges SRC and DST, sets `a`"
abbrev pub acknowledged : Wire → Wire
acknowledged w = record { cmd = w.cmd; val = w.val; src = w.dst; dst = w.src; id = w.id; type = type_a }

-- "works out the CRC"
abbrev pub acknowledgement : Wire → List ℕ
acknowledgement w = bytes_of homiqs.homiq (homiq_of (acknowledged w))

-- 5: no frame, or one "of type `a`"; 4: "lent room too short for the answer"
pub data AcknowledgeCause (f : List ℕ) (n : ℕ) : ℕ → Type 0 where
  no-frame : ((w : Wire) → FrameOf f w → ⊥) → AcknowledgeCause f n 5
  answered : {w : Wire} → FrameOf f w → w.type ≡ type_a → AcknowledgeCause f n 5
  short : {w : Wire} → FrameOf f w → n < length (acknowledgement w) → AcknowledgeCause f n 4

-- bs are the bytes of the frame's acknowledgement
pub record AcknowledgementOf (f bs : List ℕ) : Type 0 where
  pub wire : Wire
  pub frame : FrameOf f wire
  pub is : bs ≡ acknowledgement wire

-- r is the right answer, and `later` the right room afterwards
abbrev pub Acknowledges : List ℕ → List ℕ → Written → List ℕ → Type 0
Acknowledges f room r later = WritesRight (AcknowledgeCause f (length room)) (AcknowledgementOf f) room r later
