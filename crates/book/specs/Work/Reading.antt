-- What the code finds on its way through a book.
-- Assumes nothing.
use Rattle.std.specs.Prelude.{Bool, true, false, List, [], ◌∷◌, ◌++◌, ◌≡◌, ℕ, ◌+◌, ◌-◌, ◌*◌, ◌≤◌, ◌<◌, length, get_or}
use Rattle.std.specs.Prelude.{Option, Some, None, Result, Ok, Err}
use Rattle.digits.specs.Paper.Bytes.{part}
use Rattle.digits.specs.Paper.LowFirst.{low_byte_first}
use Rattle.digits.specs.declared.refusal.Refusal.{Refusal}
use Rattle.digits.specs.declared.refusal.Refusal.TheVariants.{NoBook}
use Rattle.frames.specs.Paper.Kinds.{Frame}
use Rattle.frames.specs.Paper.OneFrame.{OneFrame}
use Rattle.book.specs.Paper.Book.{Entry, entry_bytes, entries, offsets, Framed, most_entries, most_bytes}
use Rattle.book.specs.Paper.Answers.{NoValidBook, Counts}
use Rattle.book.specs.declared.opening.Places.{Places}
use Rattle.book.specs.declared.opening.Slot.{Slot}

-- n is the number that `width` bytes at a place are, low byte first
pub record NumberAt (s : List ℕ) (at width n : ℕ) : Type 0 where
  pub bytes : part at (at + width) s ≡ low_byte_first width n

-- what stands at a place, as an entry's head: the kind, and the places where the frame begins and ends
pub record Heads (s : List ℕ) (at kind from to : ℕ) : Type 0 where
  pub from_is : from ≡ at + 3
  pub forward : from ≤ to
  pub kind-byte : kind < 256
  pub size : to - from < 65536
  pub bytes : part at from s ≡ low_byte_first 1 kind ++ low_byte_first 2 (to - from)

-- what stands at a place, up to the trailer: an entry, or none
pub data Slots (s : List ℕ) (at end : ℕ) : Option Slot → Type 0 where
  taken : {kind from to start stop : ℕ} → at ≤ from → from ≤ to → to ≤ end
      → OneFrame kind (part from to s) (record { from = start; to = stop })
      → part at to s ≡ entry_bytes (record { kind = kind; frame = part from to s })
      → Slots s at end (Some (record { to = to; payload = record { from = start; to = stop } }))
  empty : ((e : Entry) (behind : List ℕ) → Frame e.kind e.frame → part at end s ≡ entry_bytes e ++ behind → ⊥)
      → Slots s at end None

-- from the place `at` and the number i on, entries fill the book up to the trailer, and the trailer has their offsets
pub record Fills (s : List ℕ) (count end i at : ℕ) : Type 0 where
  pub remaining : List Entry
  pub framed : Framed remaining
  pub left : i + length remaining ≡ count
  pub bytes : part at end s ≡ entries remaining
  pub places : part (end + 4 * i) (end + 4 * count) s ≡ offsets at remaining

-- the places of the entries' payloads in their frames, of which the first entry's stand at i
pub data Noted (places : Places) : ℕ → List Entry → Type 0 where
  none : {i : ℕ} → Noted places i []
  also : {i : ℕ} {e : Entry} {es : List Entry}
      → OneFrame e.kind e.frame (record { from = get_or places.starts i 0; to = get_or places.stops i 0 })
      → Noted places (i + 1) es → Noted places i (e ∷ es)

-- such entries, with the places noted
pub record FillsNoted (s : List ℕ) (count end i at : ℕ) (places : Places) : Type 0 where
  pub fills : Fills s count end i at
  pub noted : Noted places i fills.remaining

-- what is noted of the first i entries is the same in both
pub record Agree (later places : Places) (i : ℕ) : Type 0 where
  pub starts : (j : ℕ) → j < i → get_or later.starts j 0 ≡ get_or places.starts j 0
  pub stops : (j : ℕ) → j < i → get_or later.stops j 0 ≡ get_or places.stops j 0

-- A loop's turns so far: the remaining entries fill the rest of the book if all entries fill it, and what is noted of
-- them completes what is noted.
pub record Turns (s : List ℕ) (count end : ℕ) (places : Places) (i at : ℕ) : Type 0 where
  pub place_in : at ≤ end
  pub turn_in : i ≤ count
  pub few : count ≤ most_entries
  pub starts_in : most_entries ≤ length places.starts
  pub stops_in : most_entries ≤ length places.stops
  pub onward : Fills s count end 0 0 → Fills s count end i at
  pub completes : (later : Places) → Agree later places i → FillsNoted s count end i at later
      → FillsNoted s count end 0 0 later

-- r is whether entries fill the book; if they do, the places are noted
pub data FillsNoting (s : List ℕ) (count end : ℕ) (places : Places) : Bool → Type 0 where
  noting : FillsNoted s count end 0 0 places → FillsNoting s count end places true
  unfilled : (Fills s count end 0 0 → ⊥) → FillsNoting s count end places false

-- s is a book of `count` entries, and the places of their payloads are noted
pub record Noting (s : List ℕ) (count : ℕ) (places : Places) : Type 0 where
  pub counts : Counts s count
  pub noted : Noted places 0 counts.all

-- what opening answers, with the places noted
pub data OpensNoting (s : List ℕ) (places : Places) : Result ℕ Refusal → Type 0 where
  opens : {n : ℕ} → Noting s n places → OpensNoting s places (Ok n)
  refuses : NoValidBook s → OpensNoting s places (Err NoBook)

-- the last six bytes of s are the end of a trailer that has its place there, of a book within the limits
pub record Trailed (s : List ℕ) (count : ℕ) : Type 0 where
  pub few : count ≤ most_entries
  pub small : length s ≤ most_bytes
  pub room : 4 * count + 6 ≤ length s
  pub bytes : part (length s - 6) (length s) s ≡ low_byte_first 2 count ++ low_byte_first 4 (4 * count + 6)
