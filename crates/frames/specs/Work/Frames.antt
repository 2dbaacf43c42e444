-- The recognisers of the kinds, a line a kind, and what they find at a place of a buffer.
-- Assumes nothing.
use Rattle.std.specs.Prelude.{Bool, ◌&&◌, List, ℕ, zero, suc, leb, get_or, take, drop, Option, Some, None}
use Rattle.layouts.specs.Paper.Nest.{preamble}
use Rattle.layouts.specs.Paper.Starts.{nikobus_starts, nest_starts, nibe_starts, homiq_starts}
use Rattle.layouts.specs.Work.Homiq.{homiq_recogniser}
use Rattle.layouts.specs.Work.Nest.{nest_recogniser}
use Rattle.layouts.specs.Work.Nibe.{nibe_recogniser}
use Rattle.layouts.specs.Work.Nikobus.{nikobus_recogniser}
use Rattle.layouts.specs.Work.Recogniser as found
use Rattle.layouts.specs.Work.Recogniser.{Recogniser}
use Rattle.layouts.specs.declared.Frame.{Frame}
use Rattle.layouts.specs.declared.nest.Direction.TheVariants.{Command, Response}
use Rattle.frames.specs.declared.kinds.Kind.{Kind}
use Rattle.frames.specs.declared.kinds.Kind.TheVariants.{Nikobus, NestCommand, NestResponse, Nibe, Homiq}

-- what is found at the head of a list
abbrev pub recogniser : Kind → Recogniser
recogniser Nikobus = nikobus_recogniser
recogniser NestCommand = nest_recogniser (preamble Command)
recogniser NestResponse = nest_recogniser (preamble Response)
recogniser Nibe = nibe_recogniser
recogniser Homiq = homiq_recogniser

-- of Nikobus also: the second character is at most `N`. In noise that leaves one start of seven
abbrev pub nikobus_begins : List ℕ → Bool
nikobus_begins s = nikobus_starts s && leb (get_or s 1 0) 78

-- whether a frame can begin with the first bytes of a list
abbrev pub starts : Kind → List ℕ → Bool
starts Nikobus = nikobus_begins
starts NestCommand = nest_starts Command
starts NestResponse = nest_starts Response
starts Nibe = nibe_starts
starts Homiq = homiq_starts

-- the length of the frame at the head of s, 0 for none
abbrev pub frame_len : Kind → List ℕ → ℕ
frame_len kind s = found.frame_len (recogniser kind) s

-- the first n bytes of s as a frame, none for 0
abbrev pub framed : Recogniser → List ℕ → ℕ → Option Frame
framed r s zero = None
framed r s (suc n) =
    Some (record { len = suc n; from = r.from (take (suc n) s); to = r.to (take (suc n) s) })

-- the length of the frame at the place i of the buffer s, 0 for none; and the frame
unfoldable pub len_at : Kind → List ℕ → ℕ → ℕ
len_at kind s i = frame_len kind (drop i s)

unfoldable pub frame_at : Kind → List ℕ → ℕ → Option Frame
frame_at kind s i = framed (recogniser kind) (drop i s) (len_at kind s i)

-- whether a frame can begin at the place i of s
unfoldable pub may_start : Kind → List ℕ → ℕ → Bool
may_start kind s i = starts kind (drop i s)
