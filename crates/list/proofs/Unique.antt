-- For each public function: two answers that meet its promise are the same answer, and the rooms afterwards are the same.
-- Assumes nothing.
use mathlib.Core.List.{List}
use mathlib.Core.Option.{Option}
use mathlib.Core.Path.{◌≡◌, subst}
use Prim.Native.Nat.{ℕ}
use lib.ListN.{length}
use Rattle.puts.specs.Paper.Wrote.{RoomCause, Writes, Written}
use Rattle.puts.proofs.Unique.{one_written}
use Rattle.sheet.specs.Paper.Sheet.{Lookup}
use Rattle.list.specs.Paper.Answers.{WritesListing}
use Rattle.list.proofs.Laws.One.{OneGiven, listing-one}

-- ---- list::write, write_mapped, write_with: whatever sheet is given, if no two are

pub write-one : {Given : Option Lookup → Type 0} → OneGiven Given → {s room later end : List ℕ} (r q : Written) → WritesListing Given s room r later
    → WritesListing Given s room q end → (r ≡ q) × (later ≡ end)
write-one one {s} {room} {later} r q a b =
    let e : a.listing ≡ b.listing = listing-one one a.lists b.lists in
    one_written (subst (λ (t : List ℕ). Writes (RoomCause (length room) (length t)) t room r later) e a.written) b.written
