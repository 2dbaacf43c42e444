-- 01, "Search, messages, commands": the content of a frame is what it says: its fields without the check values.
-- Assumes nothing.
use Rattle.std.specs.Prelude.{List, ℕ}
use Rattle.layouts.specs.Paper.Layout.{bytes_of}
use Rattle.layouts.specs.Paper.Layout as layout
use Rattle.layouts.specs.Paper.Homiq as homiqs
use Rattle.layouts.specs.Paper.Made.{link_of, nest_of, nibe_of, Wire, homiq_of}
use Rattle.layouts.specs.Paper.Nikobus as nikobuses
use Rattle.frames.specs.Paper.Kinds.{layout_of, Frame}
use Rattle.frames.specs.declared.kinds.Kind.{Kind}
use Rattle.frames.specs.declared.kinds.Kind.TheVariants.{Nikobus, NestCommand, NestResponse, Nibe, Homiq}

-- a link's bytes, a press's digits, a tail; the id and the payload of a command or a response; Nibe's command and
-- data; Homiq's six fields
pub data Content : Type 0 where
  link : (payload : List ℕ) → Content
  press : (digits : List ℕ) → Content
  tail : Content
  command : (id : ℕ) (payload : List ℕ) → Content
  response : (id : ℕ) (payload : List ℕ) → Content
  nibe : (command : ℕ) (content : List ℕ) → Content
  homiq : (fields : Wire) → Content

-- the six fields of a Homiq frame
abbrev pub wire_of : homiqs.Homiq → Wire
wire_of m = record { cmd = m.cmd; val = m.val; src = m.src; dst = m.dst; id = m.id; type = m.type }

-- the content of fields
abbrev pub content_in : (kind : Kind) → (layout_of kind).Fields → Content
content_in Nikobus (nikobuses.link p crc16 crc8) = link p
content_in Nikobus (nikobuses.press d) = press d
content_in Nikobus nikobuses.tail = tail
content_in NestCommand m = command m.id m.payload
content_in NestResponse m = response m.id m.payload
content_in Nibe m = nibe m.command m.content
content_in Homiq m = homiq (wire_of m)

-- what a frame says
abbrev pub content_at : {k : ℕ} {f : List ℕ} → Frame k f → Content
content_at r = content_in r.kind r.frame.form.fields

-- the kind whose frames have this content
abbrev pub kind_of : Content → Kind
kind_of (link p) = Nikobus
kind_of (press d) = Nikobus
kind_of tail = Nikobus
kind_of (command i p) = NestCommand
kind_of (response i p) = NestResponse
kind_of (nibe c d) = Nibe
kind_of (homiq w) = Homiq

-- the fields with this content, their check values worked out
abbrev pub made : (c : Content) → (layout_of (kind_of c)).Fields
made (link p) = link_of p
made (press d) = nikobuses.press d
made tail = nikobuses.tail
made (command i p) = nest_of i p
made (response i p) = nest_of i p
made (nibe c d) = nibe_of c d
made (homiq w) = homiq_of w

-- their bytes, their payload, and where that begins and ends
abbrev pub laid : Content → List ℕ
laid c = bytes_of (layout_of (kind_of c)) (made c)

abbrev pub payload_in : Content → List ℕ
payload_in c = (layout_of (kind_of c)).payload (made c)

abbrev pub payload_from : Content → ℕ
payload_from c = layout.payload_from (layout_of (kind_of c)) (made c)

abbrev pub payload_to : Content → ℕ
payload_to c = layout.payload_to (layout_of (kind_of c)) (made c)
