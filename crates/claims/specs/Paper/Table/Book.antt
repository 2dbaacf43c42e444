-- The public functions of `book`.
-- Assumes nothing.
use Rattle.std.specs.Prelude.{List, [], ◌∷◌, ◌≡◌, ℕ, length, Result}
use Rattle.std.proofs.Math.Option.{none}
use Rattle.std.specs.Borrow.{Bor}
use Rattle.digits.specs.declared.refusal.Refusal.{Refusal}
use Rattle.puts.specs.Paper.Wrote.{Written}
use Rattle.sheet.specs.Paper.Map.{sheet_in}
use Rattle.book.specs.Paper.Answers.{AddCause, Adds, BookLines, Counts, EntryCause, EntryLine, EntryLineCause}
use Rattle.book.specs.Paper.Answers.{EntryOf, ListCause, OpenCause, Location, located_refusal, located_value}
use Rattle.book.specs.Paper.Answers.{opened_count}
use Rattle.book.specs.Paper.Answers.{opened_refusal, location_ends, zero_location}
use Rattle.book.specs.Paper.Answers.{EntryLineByText, EntryLineByTextCause, BookLinesByText, ListByTextCause}
use Rattle.book.specs.declared.Located.{Located}
use Rattle.claims.specs.Paper.Claim.{fronts, Claim, refuses, hands}

-- How many entries a book has.
pub record OpeningArgs : Type 0 where
  pub book : List ℕ

abbrev pub opening : Claim (Result ℕ Refusal)
opening =
    record {
      name = "book::open";
      Args = OpeningArgs;
      refusals = 8 ∷ [];
      Cause = λ a. OpenCause a.book;
      form = refuses
          (record {
            refusal = opened_refusal;
            value = opened_count;
            zeros = 0;
            Right = λ a. Counts a.book;
          });
    }

-- The entry of a number, counted from 0.
pub record EntryArgs : Type 0 where
  pub book : List ℕ
  pub number : ℕ

abbrev pub entry : Claim (Result Located Refusal)
entry =
    record {
      name = "book::entry";
      Args = EntryArgs;
      refusals = 8 ∷ 3 ∷ [];
      Cause = λ a. EntryCause a.book a.number;
      form = refuses
          (record {
            refusal = located_refusal;
            value = located_value;
            zeros = zero_location;
            Right = λ a. EntryOf a.book a.number;
          });
    }

-- That entry's frame, as a part of the book; empty for a refusal.
pub record FrameArgs : Type 0 where
  pub book : Bor (List ℕ)
  pub number : ℕ

abbrev pub frame : Claim (Bor (List ℕ))
frame =
    record {
      name = "book::frame";
      Args = FrameArgs;
      refusals = 8 ∷ 3 ∷ [];
      Cause = λ a. EntryCause a.book.now a.number;
      form = hands (λ a. a.book)
          (λ a e. (v : Location) × (EntryOf a.book.now a.number v) × (e ≡ location_ends v));
    }

-- Writes that entry's line from the front of the room, `at` being the entry's offset.
pub record LineArgs : Type 0 where
  pub book : List ℕ
  pub number : ℕ
  pub room : List ℕ

abbrev pub line : Claim Written
line =
    record {
      name = "book::line";
      Args = LineArgs;
      refusals = 8 ∷ 3 ∷ 4 ∷ [];
      Cause = λ a. EntryLineCause none a.book a.number (length a.room);
      form = fronts (λ a. a.room) (λ a. EntryLine none a.book a.number);
    }

-- Writes that entry's line by the sheet that a map is.
pub record LineMappedArgs : Type 0 where
  pub book : List ℕ
  pub number : ℕ
  pub map : List ℕ
  pub room : List ℕ

abbrev pub line-mapped : Claim Written
line-mapped =
    record {
      name = "book::line_mapped";
      Args = LineMappedArgs;
      refusals = 8 ∷ 3 ∷ 4 ∷ [];
      Cause = λ a. EntryLineCause (sheet_in a.map) a.book a.number (length a.room);
      form = fronts (λ a. a.room) (λ a. EntryLine (sheet_in a.map) a.book a.number);
    }

-- Writes that entry's line by a sheet.
pub record LineWithArgs : Type 0 where
  pub book : List ℕ
  pub number : ℕ
  pub text : List ℕ
  pub room : List ℕ

abbrev pub line-with : Claim Written
line-with =
    record {
      name = "book::line_with";
      Args = LineWithArgs;
      refusals = 8 ∷ 3 ∷ 10 ∷ 4 ∷ [];
      Cause = λ a. EntryLineByTextCause a.book a.number a.text (length a.room);
      form = fronts (λ a. a.room) (λ a. EntryLineByText a.book a.number a.text);
    }

-- Writes the lines of all entries from the front of the room.
pub record ListArgs : Type 0 where
  pub book : List ℕ
  pub room : List ℕ

abbrev pub list : Claim Written
list =
    record {
      name = "book::list";
      Args = ListArgs;
      refusals = 8 ∷ 4 ∷ [];
      Cause = λ a. ListCause none a.book (length a.room);
      form = fronts (λ a. a.room) (λ a. BookLines none a.book);
    }

-- Writes the lines of all entries by the sheet that a map is.
pub record ListMappedArgs : Type 0 where
  pub book : List ℕ
  pub map : List ℕ
  pub room : List ℕ

abbrev pub list-mapped : Claim Written
list-mapped =
    record {
      name = "book::list_mapped";
      Args = ListMappedArgs;
      refusals = 8 ∷ 4 ∷ [];
      Cause = λ a. ListCause (sheet_in a.map) a.book (length a.room);
      form = fronts (λ a. a.room) (λ a. BookLines (sheet_in a.map) a.book);
    }

-- Writes the lines of all entries by a sheet.
pub record ListWithArgs : Type 0 where
  pub book : List ℕ
  pub text : List ℕ
  pub room : List ℕ

abbrev pub list-with : Claim Written
list-with =
    record {
      name = "book::list_with";
      Args = ListWithArgs;
      refusals = 8 ∷ 10 ∷ 4 ∷ [];
      Cause = λ a. ListByTextCause a.book a.text (length a.room);
      form = fronts (λ a. a.room) (λ a. BookLinesByText a.book a.text);
    }

-- Writes the whole new book, with an entry more, from the front of the room.
pub record AddArgs : Type 0 where
  pub book : List ℕ
  pub kind : ℕ
  pub frame : List ℕ
  pub room : List ℕ

abbrev pub add : Claim Written
add =
    record {
      name = "book::add";
      Args = AddArgs;
      refusals = 8 ∷ 2 ∷ 5 ∷ 4 ∷ [];
      Cause = λ a. AddCause a.book (record { kind = a.kind; frame = a.frame }) (length a.room);
      form = fronts (λ a. a.room) (λ a. Adds a.book (record { kind = a.kind; frame = a.frame }));
    }
