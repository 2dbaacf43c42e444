-- A listing in pieces: what remains of it from a place of the capture on, what is put of it, and how long it is.
-- Assumes nothing.
use Rattle.std.specs.Prelude.{Bool, true, List, ◌++◌, ◌≡◌, ℕ, ◌+◌, ◌-◌, ◌≤◌, length}
use Rattle.std.proofs.Math.Option.{Option}
use Rattle.frames.specs.Paper.Kinds.{known}
use Rattle.frames.specs.Paper.Runs.{Run}
use Rattle.frames.specs.Paper.Search.{Hit}
use Rattle.puts.specs.Paper.Put.{Put, largest_place}
use Rattle.puts.specs.Paper.Wrote.{RoomCause, Writes, Written}
use Rattle.puts.specs.Work.Right.{SizedRight, FitsRight}
use Rattle.sheet.specs.Paper.Sheet.{Row, Sheet, Lookup}
use Rattle.list.specs.Paper.Listing.{Lines, inside, last_line, Lists, most_input}

-- a text that is no sheet
pub record NoSheetIn (text : List ℕ) : Type 0 where
  pub each : (rows : List Row) → Sheet text rows → ⊥

-- a capture that is listed: its kind is known, and it is not too long
pub record Listable (k : ℕ) (s : List ℕ) : Type 0 where
  pub is-kind : known k ≡ true
  pub short : length s ≤ most_input

-- t is what remains of the listing behind `count` frames with `within` bytes: the lines of the frames that one search
-- after the other finds from the place on, and the last line.
pub record Remaining (sheet : Option Lookup) (k : ℕ) (s : List ℕ) (place count within : ℕ) (t : List ℕ) : Type 0 where
  pub frames : List Hit
  pub run : Run k s place frames
  pub lines : List ℕ
  pub each : Lines sheet k s frames lines
  pub is : t ≡ lines ++ last_line (count + length frames) (length s - (within + inside frames))

-- a loop's counts: `count` frames with `within` bytes lie before the place
pub record Passed (s : List ℕ) (place count within : ℕ) : Type 0 where
  pub place_in : place ≤ length s
  pub few : count ≤ place
  pub within-place : within ≤ place

-- ---- how long it is

-- the listing of a capture has n bytes
abbrev pub SizedListing : Option Lookup → ℕ → List ℕ → ℕ → Type 0
SizedListing sheet k s n = SizedRight (Lists sheet k s) n

-- r is whether a room of n bytes has room for it room for it
abbrev pub Fits : Option Lookup → ℕ → List ℕ → ℕ → Bool → Type 0
Fits sheet k s n r = FitsRight (Lists sheet k s) n r

-- a room of n bytes has
pub record Roomy (sheet : Option Lookup) (k : ℕ) (s : List ℕ) (n : ℕ) : Type 0 where
  pub each : (t : List ℕ) → Lists sheet k s t → length t ≤ n

-- a loop's turns so far: the listing is `sum` bytes longer than what remains of it
pub record Sums (sheet : Option Lookup) (k : ℕ) (s : List ℕ) (sum place count within : ℕ) : Type 0 where
  pub passed : Passed s place count within
  pub completes : (t : List ℕ) → Remaining sheet k s place count within t → SizedListing sheet k s (sum + length t)

-- ---- what is put

-- the listing of a capture is put at the front of the room
pub record PutsLists (sheet : Option Lookup) (k : ℕ) (s room later : List ℕ) (next : ℕ) : Type 0 where
  pub text : List ℕ
  pub lists : Lists sheet k s text
  pub put : Put room later 0 next text

-- a loop's turns so far: the room has room for what remains, and that, put from here on, completes the listing
pub record Completes (sheet : Option Lookup) (k : ℕ) (s room room₀ : List ℕ) (next place count within : ℕ)
    : Type 0 where
  pub passed : Passed s place count within
  pub slice : length room ≤ largest_place
  pub same : length room₀ ≡ length room
  pub enough : (t : List ℕ) → Remaining sheet k s place count within t → next + length t ≤ length room
  pub completes : (later : List ℕ) (behind : ℕ) (t : List ℕ) → Remaining sheet k s place count within t
      → Put room₀ later next behind t → PutsLists sheet k s room later behind

-- r is the right answer, and `later` the right room afterwards, of a call that writes the listing of a capture
pub record WritesLists (sheet : Option Lookup) (k : ℕ) (s room : List ℕ) (r : Written) (later : List ℕ)
    : Type 0 where
  pub text : List ℕ
  pub lists : Lists sheet k s text
  pub written : Writes (RoomCause (length room) (length text)) text room r later
