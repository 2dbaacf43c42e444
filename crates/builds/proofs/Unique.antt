-- For each public function: two answers that meet its promise, and the rooms afterwards, are the same.
-- Assumes nothing.
use mathlib.Core.List.{List}
use mathlib.Core.Path.{◌≡◌}
use Prim.Native.Nat.{ℕ}
use Rattle.layouts.specs.Paper.Layout.{Layout}
use Rattle.layouts.specs.Paper.Made.{link_of, nest_of, nibe_of}
use Rattle.layouts.specs.Paper.Nest.{nest}
use Rattle.layouts.specs.Paper.Nibe.{nibe}
use Rattle.layouts.specs.Paper.Nikobus as nikobuses
use Rattle.layouts.specs.Paper.Nikobus.{nikobus}
use Rattle.layouts.specs.declared.nest.Direction.{Direction}
use Rattle.puts.proofs.Unique.{one_written}
use Rattle.puts.specs.Paper.Wrote.{Written}
use Rattle.builds.specs.Paper.Builds.{Builds, BuildsHomiq}
use Rattle.builds.proofs.Laws.Homiq.{one-bytes}
use Rattle.puts.proofs.Laws.Right.{one-wrote}

-- every call that builds the frame of its fields
one-built : (l : Layout) (m : l.Fields) (room : List ℕ) {s t : List ℕ} (r q : Written) → Builds l m room r s → Builds l m room q t → (r ≡ q) × (s ≡ t)
one-built l m room r q a b = one_written {r = r} {q = q} a b

-- nikobus::link
pub link : (p room : List ℕ) {s t : List ℕ} (r q : Written) → Builds nikobus (link_of p) room r s → Builds nikobus (link_of p) room q t → (r ≡ q) × (s ≡ t)
link p = one-built nikobus (link_of p)

-- nikobus::press
pub press : (d room : List ℕ) {s t : List ℕ} (r q : Written) → Builds nikobus (nikobuses.press d) room r s → Builds nikobus (nikobuses.press d) room q t
    → (r ≡ q) × (s ≡ t)
press d = one-built nikobus (nikobuses.press d)

-- nikobus::tail
pub tail : (room : List ℕ) {s t : List ℕ} (r q : Written) → Builds nikobus nikobuses.tail room r s → Builds nikobus nikobuses.tail room q t → (r ≡ q) × (s ≡ t)
tail = one-built nikobus nikobuses.tail

-- nest::frame
pub nest-frame : (d : Direction) (i : ℕ) (p room : List ℕ) {s t : List ℕ} (r q : Written) → Builds (nest d) (nest_of i p) room r s
    → Builds (nest d) (nest_of i p) room q t → (r ≡ q) × (s ≡ t)
nest-frame d i p = one-built (nest d) (nest_of i p)

-- nibe::frame
pub nibe-frame : (c : ℕ) (d room : List ℕ) {s t : List ℕ} (r q : Written) → Builds nibe (nibe_of c d) room r s → Builds nibe (nibe_of c d) room q t
    → (r ≡ q) × (s ≡ t)
nibe-frame c d = one-built nibe (nibe_of c d)

-- homiq::frame
pub homiq-frame : (p room : List ℕ) {s t : List ℕ} (r q : Written) → BuildsHomiq p room r s → BuildsHomiq p room q t → (r ≡ q) × (s ≡ t)
homiq-frame p room r q a b = one-wrote (one-bytes p) {r = r} {q = q} a b
