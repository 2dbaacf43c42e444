-- Why the listing of an input is not written. (The promise of `list::write` speaks of the one listing that an input
-- has; here the cause is said of the input alone.)
-- Assumes nothing.
use Rattle.std.specs.Prelude.{List, ℕ, ◌<◌, length}
use Rattle.std.proofs.Math.Option.{Option}
use Rattle.list.specs.Paper.Listing.{Listing}
use Rattle.sheet.specs.Paper.Sheet.{Lookup}

-- 01, "Refusal numbers": 4 "lent room too short for the answer"
pub data ListingCause (Given : Option Lookup → Type 0) (s : List ℕ) (room : ℕ) : ℕ → Type 0 where
  short : {t : List ℕ} → Listing Given s t → room < length t → ListingCause Given s room 4
