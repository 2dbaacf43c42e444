-- The promises: opening a book, its entries, their lines, and adding one. Lines go by a sheet, if there is one: at
-- `none` they are 01's.
-- Assumes nothing.
use Rattle.std.specs.Prelude.{false, Result, Ok, Err, List, [], ◌∷◌, ◌++◌, ◌≡◌, ℕ, ◌+◌, ◌≤◌, ◌<◌, length}
use Rattle.std.proofs.Math.Option.{Option, some}
use Rattle.std.specs.Borrow.{Bor}
use Rattle.digits.specs.Paper.Part.{Ends, HandsPart}
use Rattle.digits.specs.Paper.Refusals.{refusal_number, Answers}
use Rattle.digits.specs.declared.refusal.Refusal.{Refusal}
use Rattle.frames.specs.Paper.Kinds.{known, Frame}
use Rattle.lines.specs.Paper.Answers.{LineOf}
use Rattle.puts.specs.Paper.Right.{WritesRight}
use Rattle.puts.specs.Paper.Wrote.{Written}
use Rattle.sheet.specs.Paper.Sheet.{Row, Sheet, Lookup, find}
use Rattle.book.specs.Paper.Book.{Entry, head, entry_bytes, book, most_entries, most_bytes, Book, EntryAt}
use Rattle.book.specs.declared.Located.{Located}

-- 01, "Refusal numbers": 8 "not a valid book"
abbrev pub NoValidBook : List ℕ → Type 0
NoValidBook s = (es : List Entry) → Book s es → ⊥

-- ---- open: "Opening checks all of this"

pub data OpenCause (s : List ℕ) : ℕ → Type 0 where
  no-book : NoValidBook s → OpenCause s 8

-- the book s has n entries
pub record Counts (s : List ℕ) (n : ℕ) : Type 0 where
  pub all : List Entry
  pub valid : Book s all
  pub is : n ≡ length all

abbrev pub opened_refusal : Result ℕ Refusal → ℕ
opened_refusal (Ok n) = 0
opened_refusal (Err why) = refusal_number why

abbrev pub opened_count : Result ℕ Refusal → ℕ
opened_count (Ok n) = n
opened_count (Err why) = 0

-- r is the right answer
abbrev pub Opens : List ℕ → Result ℕ Refusal → Type 0
Opens s r = Answers 0 (OpenCause s) (Counts s) (opened_refusal r) (opened_count r)

-- ---- entry and frame

-- 8 "not a valid book"; 3 "entry number not below the count"
pub data EntryCause (s : List ℕ) (number : ℕ) : ℕ → Type 0 where
  no-book : NoValidBook s → EntryCause s number 8
  no-entry : {es : List Entry} → Book s es → length es ≤ number → EntryCause s number 3

-- what is reported of an entry: its kind, its offset, and the places in the book where its frame begins and ends
abbrev pub Location : Type 0
Location = Located

-- v is what is reported of the entry of that number
pub record EntryOf (s : List ℕ) (number : ℕ) (v : Location) : Type 0 where
  pub all : List Entry
  pub valid : Book s all
  pub entry : Entry
  pub numbered : EntryAt all number entry v.offset
  pub kind-is : v.kind ≡ entry.kind
  pub from_is : v.from ≡ v.offset + length (head entry)
  pub to_is : v.to ≡ v.offset + length (entry_bytes entry)

abbrev pub located_refusal : Result Located Refusal → ℕ
located_refusal (Ok v) = 0
located_refusal (Err why) = refusal_number why

abbrev pub zero_location : Location
zero_location = record { kind = 0; offset = 0; from = 0; to = 0 }

abbrev pub located_value : Result Located Refusal → Location
located_value (Ok v) = v
located_value (Err why) = zero_location

-- r is the right answer
abbrev pub LocatesEntry : List ℕ → ℕ → Result Located Refusal → Type 0
LocatesEntry s number r =
    Answers zero_location (EntryCause s number) (EntryOf s number) (located_refusal r) (located_value r)

-- where the frame of that entry begins and ends
abbrev pub location_ends : Location → Ends
location_ends v = record { from = v.from; to = v.to }

-- r is that part of the book
abbrev pub HandsFrame : Bor (List ℕ) → ℕ → Bor (List ℕ) → Type 0
HandsFrame s number r =
    HandsPart (EntryCause s.now number)
    (λ e. (v : Location) × (EntryOf s.now number v) × (e ≡ location_ends v)) s r

-- ---- line, line_mapped: "A book's entries give the same lines, `at` being the entry's offset"

-- t is the line of the entry of that number, by the sheet that there is; `none` is no sheet
pub record EntryLine (sheet : Option Lookup) (s : List ℕ) (number : ℕ) (t : List ℕ) : Type 0 where
  pub all : List Entry
  pub valid : Book s all
  pub entry : Entry
  pub offset : ℕ
  pub numbered : EntryAt all number entry offset
  pub line : LineOf sheet entry.kind entry.frame offset t

-- 8 "not a valid book"; 3 "entry number not below the count"; 4 "lent room too short for the answer"
pub data EntryLineCause (sheet : Option Lookup) (s : List ℕ) (number room : ℕ) : ℕ → Type 0 where
  no-book : NoValidBook s → EntryLineCause sheet s number room 8
  no-entry : {es : List Entry} → Book s es → length es ≤ number → EntryLineCause sheet s number room 3
  short : {t : List ℕ} → EntryLine sheet s number t → room < length t → EntryLineCause sheet s number room 4

-- r is the right answer, and `later` the right room afterwards
abbrev pub WritesEntryLine : Option Lookup → List ℕ → ℕ → List ℕ → Written → List ℕ → Type 0
WritesEntryLine sheet s number room r later =
    WritesRight (EntryLineCause sheet s number (length room)) (EntryLine sheet s number) room r later

-- ---- line_with

-- t is the line of the entry of that number by the sheet that the text is
pub record EntryLineByText (s : List ℕ) (number : ℕ) (text t : List ℕ) : Type 0 where
  pub rows : List Row
  pub is : Sheet text rows
  pub line : EntryLine (some (find rows)) s number t

-- 8 and 3 as above; 02, K2: 10 "sheet not as described"; 4
pub data EntryLineByTextCause (s : List ℕ) (number : ℕ) (text : List ℕ) (room : ℕ) : ℕ → Type 0 where
  no-book : NoValidBook s → EntryLineByTextCause s number text room 8
  no-entry : {es : List Entry} → Book s es → length es ≤ number → EntryLineByTextCause s number text room 3
  bad-sheet : ((rows : List Row) → Sheet text rows → ⊥) → EntryLineByTextCause s number text room 10
  short : {t : List ℕ} → EntryLineByText s number text t → room < length t → EntryLineByTextCause s number text room 4

abbrev pub WritesEntryLineByText : List ℕ → ℕ → List ℕ → List ℕ → Written → List ℕ → Type 0
WritesEntryLineByText s number text room r later =
    WritesRight (EntryLineByTextCause s number text (length room)) (EntryLineByText s number text) room r later

-- ---- list, list_mapped: the lines of all entries, one behind the other

-- t is the lines of these entries, of which the first stands at `at`
pub data EntryLines (sheet : Option Lookup) : (at : ℕ) → List Entry → List ℕ → Type 0 where
  none : {at : ℕ} → EntryLines sheet at [] []
  line : {at : ℕ} {e : Entry} {es : List Entry} {t rest : List ℕ} → LineOf sheet e.kind e.frame at t
      → EntryLines sheet (at + length (entry_bytes e)) es rest
      → EntryLines sheet at (e ∷ es) (t ++ rest)

-- t is the lines of the book s
pub record BookLines (sheet : Option Lookup) (s t : List ℕ) : Type 0 where
  pub all : List Entry
  pub valid : Book s all
  pub lines : EntryLines sheet 0 all t

-- 8 "not a valid book"; 4 "lent room too short for the answer"
pub data ListCause (sheet : Option Lookup) (s : List ℕ) (room : ℕ) : ℕ → Type 0 where
  no-book : NoValidBook s → ListCause sheet s room 8
  short : {t : List ℕ} → BookLines sheet s t → room < length t → ListCause sheet s room 4

-- r is the right answer, and `later` the right room afterwards
abbrev pub WritesBookLines : Option Lookup → List ℕ → List ℕ → Written → List ℕ → Type 0
WritesBookLines sheet s room r later =
    WritesRight (ListCause sheet s (length room)) (BookLines sheet s) room r later

-- ---- list_with

-- t is the lines of the book s by the sheet that the text is
pub record BookLinesByText (s text t : List ℕ) : Type 0 where
  pub rows : List Row
  pub is : Sheet text rows
  pub lines : BookLines (some (find rows)) s t

-- 8; 10 "sheet not as described"; 4
pub data ListByTextCause (s text : List ℕ) (room : ℕ) : ℕ → Type 0 where
  no-book : NoValidBook s → ListByTextCause s text room 8
  bad-sheet : ((rows : List Row) → Sheet text rows → ⊥) → ListByTextCause s text room 10
  short : {t : List ℕ} → BookLinesByText s text t → room < length t → ListByTextCause s text room 4

abbrev pub WritesBookLinesByText : List ℕ → List ℕ → List ℕ → Written → List ℕ → Type 0
WritesBookLinesByText s text room r later =
    WritesRight (ListByTextCause s text (length room)) (BookLinesByText s text) room r later

-- ---- add: "Adding an entry writes the whole new book, trailer too"

-- bs is the book s with the entry e added
pub record Adds (s : List ℕ) (e : Entry) (bs : List ℕ) : Type 0 where
  pub all : List Entry
  pub valid : Book s all
  -- the new book's entries are the old ones and the new one, in order
  pub new : Book bs (all ++ e ∷ [])

-- 8 "not a valid book"; 2 "kind not 1 to 5"; 5 "a .. frame or book outside its limits"; 4 "lent room too short for
-- the answer"
pub data AddCause (s : List ℕ) (e : Entry) (room : ℕ) : ℕ → Type 0 where
  no-book : NoValidBook s → AddCause s e room 8
  no_kind : known e.kind ≡ false → AddCause s e room 2
  no-frame : (Frame e.kind e.frame → ⊥) → AddCause s e room 5
  too_many : {es : List Entry} → Book s es → most_entries < length (es ++ e ∷ []) → AddCause s e room 5
  too_long : {es : List Entry} → Book s es → most_bytes < length (book (es ++ e ∷ [])) → AddCause s e room 5
  short : {bs : List ℕ} → Adds s e bs → room < length bs → AddCause s e room 4

-- r is the right answer, and `later` the right room afterwards
abbrev pub WritesAdded : List ℕ → Entry → List ℕ → Written → List ℕ → Type 0
WritesAdded s e room r later = WritesRight (AddCause s e (length room)) (Adds s e) room r later
