-- What the code puts of a book, and of its lines.
-- Assumes nothing.
use Rattle.std.specs.Prelude.{Bool, List, [], ◌∷◌, ◌++◌, ◌≡◌, ℕ, suc, ◌+◌, ◌≤◌, length}
use Rattle.std.proofs.Math.Option.{Option}
use Rattle.digits.specs.Paper.Bytes.{part}
use Rattle.lines.specs.Paper.Answers.{LineOf}
use Rattle.puts.specs.Paper.Put.{Put}
use Rattle.puts.specs.Work.Right.{SizedRight, FitsRight}
use Rattle.sheet.specs.Paper.Sheet.{Lookup}
use Rattle.book.specs.Paper.Book.{Entry, entries, book, Framed, most_entries, most_bytes, Book}
use Rattle.book.specs.Paper.Answers.{EntryLines, BookLines}
use Rattle.book.specs.Work.Reading.{Noted}
use Rattle.book.specs.declared.opening.Places.{Places}

-- ---- adding

-- a book of this many entries and bytes has place for one more entry, with a frame of this length
pub record HasPlace (count size frame : ℕ) : Type 0 where
  pub few : suc count ≤ most_entries
  pub small : size + (frame + 7) ≤ most_bytes

-- the book with the entry added is put at the room's front
pub record PutsAdded (s : List ℕ) (e : Entry) (room later : List ℕ) (next : ℕ) : Type 0 where
  pub all : List Entry
  pub valid : Book s all
  pub put : Put room later 0 next (book (all ++ e ∷ []))

-- ---- the line of one entry

-- the line of the frame f that stands at `at` is put at a place of the room, as far as the room goes
pub record PutsOne (sheet : Option Lookup) (k : ℕ) (f : List ℕ) (at : ℕ) (room later : List ℕ) (to behind : ℕ)
    : Type 0 where
  pub text : List ℕ
  pub right : LineOf sheet k f at text
  pub put : Put room later to behind text

-- ---- the lines

-- the lines of a book are put at the room's front, as far as the room goes
pub record Lists (sheet : Option Lookup) (s room later : List ℕ) (behind : ℕ) : Type 0 where
  pub text : List ℕ
  pub right : BookLines sheet s text
  pub put : Put room later 0 behind text

-- a loop's turns so far: the lines that are put, and the entries that are left, whose lines complete those of the book
pub record Listing (sheet : Option Lookup) (s : List ℕ) (places : Places) (room later : List ℕ) (count next i at : ℕ)
    : Type 0 where
  pub remaining : List Entry
  pub noted : Noted places i remaining
  pub framed : Framed remaining
  pub left : i + length remaining ≡ count
  pub place_in : at + length (entries remaining) ≤ length s
  pub bytes : part at (at + length (entries remaining)) s ≡ entries remaining
  pub done : List ℕ
  pub put : Put room later 0 next done
  pub completes : (t : List ℕ) → EntryLines sheet at remaining t → BookLines sheet s (done ++ t)

-- no lines of a book are longer than n bytes
pub record Most (sheet : Option Lookup) (s : List ℕ) (n : ℕ) : Type 0 where
  pub most : (t : List ℕ) → BookLines sheet s t → length t ≤ n

-- the lines of a book are n bytes long
abbrev pub SizedLines : Option Lookup → List ℕ → ℕ → Type 0
SizedLines sheet s n = SizedRight (BookLines sheet s) n

-- r tells whether a room of n bytes has room for them
abbrev pub Fits : Option Lookup → List ℕ → ℕ → Bool → Type 0
Fits sheet s n r = FitsRight (BookLines sheet s) n r
