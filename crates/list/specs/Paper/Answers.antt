-- The promise: the listing of an input.
-- Assumes nothing.
use Rattle.std.specs.Prelude.{List, ℕ, length}
use Rattle.std.proofs.Math.Option.{Option}
use Rattle.puts.specs.Paper.Wrote.{Wrote, RoomCause, written_refusal, written_count, Written}
use Rattle.sheet.specs.Paper.Sheet.{Lookup}
use Rattle.list.specs.Paper.Listing.{Listing}

-- The right outcome of a call that writes the listing of s from the front of a lent room: a refusal number, a count
-- of bytes, and the room afterwards. The whole listing is written, or nothing and 4 if the room is too short.
pub record WroteListing (Given : Option Lookup → Type 0) (s room : List ℕ) (no count : ℕ) (later : List ℕ)
    : Type 0 where
  pub listing : List ℕ
  pub lists : Listing Given s listing
  pub written : Wrote (RoomCause (length room) (length listing)) listing room no count later

-- r is the right answer, and `later` the right room afterwards
abbrev pub WritesListing : (Option Lookup → Type 0) → List ℕ → List ℕ → Written → List ℕ → Type 0
WritesListing Given s room r later = WroteListing Given s room (written_refusal r) (written_count r) later
