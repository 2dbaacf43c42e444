-- 01, "JSON and the listing program": the whole listing.
-- Assumes nothing.
use Rattle.std.specs.Prelude.{true, List, [], ◌∷◌, ◌++◌, ◌≡◌, ℕ, ◌+◌, ◌-◌, ◌*◌, ◌≤◌, ◌<◌, length}
use Rattle.std.proofs.Math.Option.{Option, some}
use Rattle.std.proofs.Math.Option as options
use Rattle.digits.specs.Paper.Ascii.{ascii}
use Rattle.frames.specs.Paper.Kinds.{known}
use Rattle.frames.specs.Paper.Runs.{Run}
use Rattle.frames.specs.Paper.Search.{Hit, frame_part}
use Rattle.json_values.specs.Paper.Json.{◌∶◌, object, number}
use Rattle.lines.specs.Paper.Answers.{LineOf}
use Rattle.sheet.specs.Paper.Map.{sheet_in}
use Rattle.sheet.specs.Paper.Sheet.{Row, Sheet, Lookup, find}

-- "It prints a line a frame": t is the lines of these frames of the capture s; "`at` counts from the capture's start"
pub data Lines (sheet : Option Lookup) (k : ℕ) (s : List ℕ) : List Hit → List ℕ → Type 0 where
  none : Lines sheet k s [] []
  line : {v : Hit} {later : List Hit} {t rest : List ℕ} → LineOf sheet k (frame_part s v) v.start t
      → Lines sheet k s later rest
      → Lines sheet k s (v ∷ later) (t ++ rest)

-- how many bytes the frames have
unfoldable pub inside : List Hit → ℕ
inside [] = 0
inside (v ∷ later) = v.len + inside later

-- "and a last line with the frames and the bytes in no frame"
abbrev pub last_line : ℕ → ℕ → List ℕ
last_line frames skipped =
    object (ascii "frames" ∶ number frames ∷ ascii "skipped" ∶ number skipped ∷ []) ++ ascii "\n"

-- t lists the capture s: the lines of the frames that one search after the other finds from its start on, and the
-- last line
pub record Lists (sheet : Option Lookup) (k : ℕ) (s t : List ℕ) : Type 0 where
  pub frames : List Hit
  pub run : Run k s 0 frames
  pub lines : List ℕ
  pub each : Lines sheet k s frames lines
  pub is : t ≡ lines ++ last_line (length frames) (length s - inside frames)

-- "a digit 1 to 5, LF, then the capture"
pub record Input (s : List ℕ) : Type 0 where
  pub kind : ℕ
  pub is-kind : known kind ≡ true
  pub capture : List ℕ
  pub is : s ≡ (48 + kind) ∷ 10 ∷ capture

-- "65,536 bytes in all"
abbrev pub most_input : ℕ
most_input = 65536

abbrev pub refused_with : ℕ → List ℕ
refused_with n = object (ascii "refused" ∶ number n ∷ []) ++ ascii "\n"

-- ---- the sheet that is given: none, the one that a map is, or the one that a text is

abbrev pub NoSheet : Option Lookup → Type 0
NoSheet sheet = sheet ≡ options.none

abbrev pub OfMap : List ℕ → Option Lookup → Type 0
OfMap map sheet = sheet ≡ sheet_in map

pub record OfText (text : List ℕ) (sheet : Option Lookup) : Type 0 where
  pub rows : List Row
  pub is : Sheet text rows
  pub says : sheet ≡ some (find rows)

-- t is the listing of the input s. "Bad or missing first two bytes print only `{"refused":2}`, else too long an input
-- only `{"refused":5}`." 02, K2: "a bad [sheet] prints only `{"refused":10}`, after 01's two".
pub data Listing (Given : Option Lookup → Type 0) (s : List ℕ) : List ℕ → Type 0 where
  bad-start : (Input s → ⊥) → Listing Given s (refused_with 2)
  too_long : Input s → most_input < length s → Listing Given s (refused_with 5)
  bad-sheet : Input s → length s ≤ most_input → ((sheet : Option Lookup) → Given sheet → ⊥)
      → Listing Given s (refused_with 10)
  listed : {sheet : Option Lookup} {t : List ℕ} → Given sheet → (i : Input s) → length s ≤ most_input
      → Lists sheet i.kind i.capture t → Listing Given s t

-- ours: no listing of an input of n bytes is longer than this, and none at all is longer than that of the longest input
abbrev pub listing_room : ℕ → ℕ
listing_room n = 32 * n + 50
