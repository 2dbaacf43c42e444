-- A frame built from its fields into a lent room: the layout's bytes, with the check values worked out.
-- Assumes nothing.
use Rattle.std.specs.Prelude.{List, ◌≡◌, ℕ, ◌<◌, length}
use Rattle.puts.specs.Paper.Wrote.{Writes, Written}
use Rattle.layouts.specs.Paper.Homiq.{homiq}
use Rattle.layouts.specs.Paper.Layout.{Layout, bytes_of}
use Rattle.layouts.specs.Paper.Made.{Wire, homiq_of, Payload}
use Rattle.puts.specs.Paper.Right.{WritesRight}

-- 01, "Refusal numbers": 5 "a field .. outside its limits", 4 "lent room too short for the answer"
pub data BuildCause (Limits : Type 0) (room bytes : ℕ) : ℕ → Type 0 where
  outside : (Limits → ⊥) → BuildCause Limits room bytes 5
  short : room < bytes → BuildCause Limits room bytes 4

-- r is the right answer, and `later` the right room afterwards, of building the frame of these fields
abbrev pub Builds : (l : Layout) → l.Fields → List ℕ → Written → List ℕ → Type 0
Builds l m room r later =
    Writes (BuildCause (l.Limits m) (length room) (length (bytes_of l m))) (bytes_of l m) room r later

-- Homiq. 5: p is no payload of fields within their limits; 4: the room is too short for the frame with this payload
pub data HomiqCause (p : List ℕ) (room : ℕ) : ℕ → Type 0 where
  outside : ((w : Wire) → Payload p w → ⊥) → HomiqCause p room 5
  short : {w : Wire} → Payload p w → room < length (bytes_of homiq (homiq_of w)) → HomiqCause p room 4

-- the bytes of the frame with this payload
pub record HomiqBytes (p bs : List ℕ) : Type 0 where
  pub wire : Wire
  pub payload : Payload p wire
  pub bytes : bs ≡ bytes_of homiq (homiq_of wire)

abbrev pub BuildsHomiq : List ℕ → List ℕ → Written → List ℕ → Type 0
BuildsHomiq p room r later = WritesRight (HomiqCause p (length room)) (HomiqBytes p) room r later
