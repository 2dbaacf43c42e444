-- The public functions of `list`.
-- Assumes nothing.
use Rattle.std.specs.Prelude.{List, [], ◌∷◌, ℕ, length}
use Rattle.puts.specs.Paper.Wrote.{Written}
use Rattle.list.specs.Paper.Listing.{NoSheet, OfMap, OfText, Listing}
use Rattle.claims.specs.Paper.Causes.{ListingCause}
use Rattle.claims.specs.Paper.Claim.{fronts, Claim}

-- Writes the listing of an input from the front of the room.
pub record WriteArgs : Type 0 where
  pub input : List ℕ
  pub room : List ℕ

abbrev pub write : Claim Written
write =
    record {
      name = "list::write";
      Args = WriteArgs;
      refusals = 4 ∷ [];
      Cause = λ a. ListingCause NoSheet a.input (length a.room);
      form = fronts (λ a. a.room) (λ a. Listing NoSheet a.input);
    }

-- Writes the listing of an input by the sheet that a map is.
pub record WriteMappedArgs : Type 0 where
  pub input : List ℕ
  pub map : List ℕ
  pub room : List ℕ

abbrev pub write-mapped : Claim Written
write-mapped =
    record {
      name = "list::write_mapped";
      Args = WriteMappedArgs;
      refusals = 4 ∷ [];
      Cause = λ a. ListingCause (OfMap a.map) a.input (length a.room);
      form = fronts (λ a. a.room) (λ a. Listing (OfMap a.map) a.input);
    }

-- Writes the listing of an input by a sheet.
pub record WriteWithArgs : Type 0 where
  pub input : List ℕ
  pub text : List ℕ
  pub room : List ℕ

abbrev pub write-with : Claim Written
write-with =
    record {
      name = "list::write_with";
      Args = WriteWithArgs;
      refusals = 4 ∷ [];
      Cause = λ a. ListingCause (OfText a.text) a.input (length a.room);
      form = fronts (λ a. a.room) (λ a. Listing (OfText a.text) a.input);
    }
