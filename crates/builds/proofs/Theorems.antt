-- What the built bytes come to, for a reader: each is a frame of its layout.
-- Assumes nothing.
use mathlib.Core.List.{List}
use mathlib.Core.Path.{refl}
use Prim.Native.Nat.{ℕ, ◌≤◌, ◌<◌}
use lib.Dec.{T}
use lib.ListN.{length}
use Rattle.digits.specs.Paper.Bytes.{Bytes}
use Rattle.layouts.specs.Paper.Chars.{one_of}
use Rattle.layouts.specs.Paper.Homiq as homiqs
use Rattle.layouts.specs.Paper.Homiq.{homiq}
use Rattle.layouts.specs.Paper.Layout.{Layout, Agree, all-agree, agree, bytes_of, FrameBy}
use Rattle.layouts.specs.Paper.Made.{link_of, nest_of, nibe_of, Wire, homiq_of}
use Rattle.layouts.specs.Paper.Nest.{nest}
use Rattle.layouts.specs.Paper.Nibe.{nibe, commands}
use Rattle.layouts.specs.Paper.Nikobus as nikobuses
use Rattle.layouts.specs.Paper.Nikobus.{nikobus, press, tail, tail-limits}
use Rattle.layouts.specs.declared.nest.Direction.{Direction}
use Rattle.builds.specs.Paper.Builds.{HomiqBytes}
use Rattle.layouts.proofs.Laws.Made.{link-fit, nest-fit, nibe-fit}

-- fields within the limits whose check values are right make a frame
pub built-frame : (l : Layout) (m : l.Fields) → l.Limits m → Agree (l.compared m) → FrameBy l (bytes_of l m)
built-frame l m limits passes = record { form = record { fields = m; limits = limits; laid = refl }; passes = passes }

-- THE BYTES THAT THE CALLS WRITE ARE FRAMES, where they write
pub link-frame : (p : List ℕ) → 1 ≤ length p → length p ≤ 122 → Bytes p → FrameBy nikobus (bytes_of nikobus (link_of p))
link-frame p some short bytes = built-frame nikobus (link_of p) (link-fit p some short bytes) (agree refl (agree refl all-agree))

pub press-frame : (d : List ℕ) → nikobuses.Limits (press d) → FrameBy nikobus (bytes_of nikobus (press d))
press-frame d limits = built-frame nikobus (press d) limits all-agree

pub tail-frame : FrameBy nikobus (bytes_of nikobus tail)
tail-frame = built-frame nikobus tail tail-limits all-agree

pub nest-frame : (d : Direction) (i : ℕ) (p : List ℕ) → i < 65536 → length p ≤ 1024 → Bytes p → FrameBy (nest d) (bytes_of (nest d) (nest_of i p))
nest-frame d i p id short bytes = built-frame (nest d) (nest_of i p) (nest-fit i p id short bytes) (agree refl all-agree)

pub nibe-frame : (c : ℕ) (d : List ℕ) → T (one_of commands c) → length d ≤ 255 → Bytes d → FrameBy nibe (bytes_of nibe (nibe_of c d))
nibe-frame c d command short bytes = built-frame nibe (nibe_of c d) (nibe-fit c d command short bytes) (agree refl all-agree)

pub homiq-frame : (w : Wire) → homiqs.Limits (homiq_of w) → FrameBy homiq (bytes_of homiq (homiq_of w))
homiq-frame w limits = built-frame homiq (homiq_of w) limits (agree refl all-agree)

-- what is written for a payload is a frame too
pub homiq-payload : (p bs : List ℕ) → HomiqBytes p bs → FrameBy homiq bs
homiq-payload p bs b = record { form = record { fields = homiq_of b.wire; limits = b.payload.limits; laid = b.bytes }; passes = agree refl all-agree }
