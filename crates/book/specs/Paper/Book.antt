-- 01, "The capture book": the layout of a book, its limits, and what a valid book is.
-- Assumes nothing.
use Rattle.std.specs.Prelude.{List, [], ◌∷◌, ◌++◌, ◌≡◌, ℕ, ◌+◌, ◌≤◌, length}
use Rattle.digits.specs.Paper.LowFirst.{low_byte_first}
use Rattle.frames.specs.Paper.Kinds.{Frame}

-- ---- the layout

-- what an entry holds
pub record Entry : Type 0 where
  pub kind : ℕ
  pub frame : List ℕ

-- "kind (1), frame length (2)": what stands before an entry's frame
unfoldable pub head : Entry → List ℕ
head e = low_byte_first 1 e.kind ++ low_byte_first 2 (length e.frame)

-- "kind (1), frame length (2), one frame of that kind"
unfoldable pub entry_bytes : Entry → List ℕ
entry_bytes e = head e ++ e.frame

-- "Entries from offset 0 without gaps"
unfoldable pub entries : List Entry → List ℕ
entries [] = []
entries (e ∷ es) = entry_bytes e ++ entries es

-- "each entry's offset (4 each)"; the first of these entries stands at `at`
unfoldable pub offsets : ℕ → List Entry → List ℕ
offsets at [] = []
offsets at (e ∷ es) = low_byte_first 4 at ++ offsets (at + length (entry_bytes e)) es

-- "each entry's offset (4 each), count (2)"
abbrev pub counted : List Entry → List ℕ
counted es = offsets 0 es ++ low_byte_first 2 (length es)

-- "Then a trailer: each entry's offset (4 each), count (2), and the distance from the book's end back to the
-- trailer's start (4)"
unfoldable pub trailer : List Entry → List ℕ
trailer es = counted es ++ low_byte_first 4 (length (counted es) + 4)

unfoldable pub book : List Entry → List ℕ
book es = entries es ++ trailer es

-- ---- the limits

-- "one frame of that kind"
pub data Framed : List Entry → Type 0 where
  none : Framed []
  also : {e : Entry} {es : List Entry} → Frame e.kind e.frame → Framed es → Framed (e ∷ es)

-- "at most 1,000 entries and 65,536 bytes"
abbrev pub most_entries : ℕ
most_entries = 1000

abbrev pub most_bytes : ℕ
most_bytes = 65536

-- the entries are within the limits
pub record Within (es : List Entry) : Type 0 where
  pub framed : Framed es
  pub few : length es ≤ most_entries
  pub small : length (book es) ≤ most_bytes

-- s is a valid book: that of these entries
pub record Book (s : List ℕ) (es : List Entry) : Type 0 where
  pub within : Within es
  pub is : s ≡ book es

-- e is the entry of that number, and stands at that offset
pub record EntryAt (es : List Entry) (number : ℕ) (e : Entry) (offset : ℕ) : Type 0 where
  pub before : List Entry
  pub behind : List Entry
  pub is : es ≡ before ++ e ∷ behind
  pub number_is : number ≡ length before
  pub offset-is : offset ≡ length (entries before)
