-- 01, "Kinds and frames": the fields of a frame whose check values are worked out from the others.
-- Assumes nothing.
use Rattle.std.specs.Prelude.{List, ◌≡◌, ℕ}
use Rattle.checks.specs.Paper.Buses.{nikobus_crc16, nikobus_crc8, nest_crc, homiq_crc}
use Rattle.checks.specs.Paper.Check.{check}
use Rattle.checks.specs.Paper.Xor.{xor_of}
use Rattle.layouts.specs.Paper.Homiq as homiqs
use Rattle.layouts.specs.Paper.Homiq.{Homiq, joined}
use Rattle.layouts.specs.Paper.Nest as nests
use Rattle.layouts.specs.Paper.Nest.{Nest}
use Rattle.layouts.specs.Paper.Nibe as nibes
use Rattle.layouts.specs.Paper.Nibe.{Nibe}
use Rattle.layouts.specs.Paper.Nikobus.{Nikobus, link, link_checked}

-- a link with this payload
abbrev pub link_of : List ℕ → Nikobus
link_of p = link p (check nikobus_crc16 p) (check nikobus_crc8 (link_checked p (check nikobus_crc16 p)))

-- a Nest record with this id and payload
abbrev pub nest_of : ℕ → List ℕ → Nest
nest_of i p = record { id = i; payload = p; crc = check nest_crc (nests.covered i p) }

-- Nibe's command with these data
abbrev pub nibe_of : ℕ → List ℕ → Nibe
nibe_of c d = record { command = c; content = d; xor = xor_of (nibes.covered d) }

-- Homiq's six fields from CMD to TYPE, which the CRC covers
pub record Wire : Type 0 where
  pub cmd : List ℕ
  pub val : List ℕ
  pub src : List ℕ
  pub dst : List ℕ
  pub id : ℕ
  pub type : ℕ

-- those, with a CRC
abbrev pub closed : Wire → ℕ → Homiq
closed w crc = record { cmd = w.cmd; val = w.val; src = w.src; dst = w.dst; id = w.id; type = w.type; crc = crc }

abbrev pub homiq_of : Wire → Homiq
homiq_of w = closed w (check homiq_crc (joined (closed w 0)))

-- p is the payload "CMD;VAL;SRC;DST;ID;TYPE" of these fields, and they are within their limits
pub record Payload (p : List ℕ) (w : Wire) : Type 0 where
  pub limits : homiqs.Limits (homiq_of w)
  pub laid : p ≡ homiqs.payload (homiq_of w)
