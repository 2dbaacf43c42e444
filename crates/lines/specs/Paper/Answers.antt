-- The promises: the line of a frame, the line of a message or of a content, the next line of a capture, and its size.
-- Each goes by a sheet, if there is one: at `none` the line is 01's.
-- Assumes nothing.
use Rattle.std.specs.Prelude.{false, Result, Ok, Err, List, ◌≡◌, ℕ, ◌+◌, ◌-◌, ◌<◌, length}
use Rattle.std.proofs.Math.Option.{Option, some}
use Rattle.std.proofs.lemmas.List.Edits.{sets}
use Rattle.digits.specs.Paper.Bytes.{part}
use Rattle.digits.specs.Paper.Refusals.{refusal_number, Answers}
use Rattle.digits.specs.declared.refusal.Refusal.{Refusal}
use Rattle.puts.specs.Paper.Put.{Put}
use Rattle.puts.specs.Paper.Right.{WritesRight, AnswersInto}
use Rattle.puts.specs.Paper.Wrote.{written_refusal, written_count, Written}
use Rattle.frames.specs.Paper.Kinds.{known, Frame}
use Rattle.frames.specs.Paper.Search.{Hit, Leftmost, SearchCause, frame_part}
use Rattle.messages.specs.Paper.Message.{Message}
use Rattle.messages.specs.Paper.Answers.{Stands}
use Rattle.messages.specs.Paper.Meant.{ContentWith, MeantCause}
use Rattle.messages.specs.Paper.Table.{content_of, Good}
use Rattle.messages.specs.declared.Tag.{Tag}
use Rattle.sheet.specs.Paper.Sheet.{Row, Sheet, Lookup, find}
use Rattle.lines.specs.Paper.WithSheet.{line_with}
use Rattle.lines.specs.declared.Listed.{Listed}
use Rattle.lines.specs.declared.Measured.{Measured}

-- ---- write

-- t is the line of the frame f of kind k that stands at `at`, by the sheet that there is; `none` is no sheet
pub record LineOf (sheet : Option Lookup) (k : ℕ) (f : List ℕ) (at : ℕ) (t : List ℕ) : Type 0 where
  pub message : Message
  pub stands : Stands k f message
  pub is : t ≡ line_with sheet at (length f) message

-- 01, "Refusal numbers": 2 "kind not 1 to 5"; 5 "a .. frame .. outside its limits"; 4 "lent room too short for the
-- answer"
pub data LineCause (sheet : Option Lookup) (k : ℕ) (f : List ℕ) (at room : ℕ) : ℕ → Type 0 where
  no_kind : known k ≡ false → LineCause sheet k f at room 2
  no-frame : (Frame k f → ⊥) → LineCause sheet k f at room 5
  short : {t : List ℕ} → LineOf sheet k f at t → room < length t → LineCause sheet k f at room 4

-- r is the right answer, and `later` the right room afterwards, of a call that writes the line of f from the front of
-- a lent room
abbrev pub WritesLine : Option Lookup → ℕ → List ℕ → ℕ → List ℕ → Written → List ℕ → Type 0
WritesLine sheet k f at room r later =
    WritesRight (LineCause sheet k f at (length room)) (LineOf sheet k f at) room r later

-- ---- write_with

-- t is the line of the frame by the sheet that the text is
pub record LineByText (k : ℕ) (f : List ℕ) (at : ℕ) (text t : List ℕ) : Type 0 where
  pub rows : List Row
  pub is : Sheet text rows
  pub line : LineOf (some (find rows)) k f at t

-- 2 and 5 as above; 02, K2: 10 "sheet not as described"; 4
pub data LineByTextCause (k : ℕ) (f : List ℕ) (at : ℕ) (text : List ℕ) (room : ℕ) : ℕ → Type 0 where
  no_kind : known k ≡ false → LineByTextCause k f at text room 2
  no-frame : (Frame k f → ⊥) → LineByTextCause k f at text room 5
  bad-sheet : ((rows : List Row) → Sheet text rows → ⊥) → LineByTextCause k f at text room 10
  short : {t : List ℕ} → LineByText k f at text t → room < length t → LineByTextCause k f at text room 4

abbrev pub WritesLineByText : ℕ → List ℕ → ℕ → List ℕ → List ℕ → Written → List ℕ → Type 0
WritesLineByText k f at text room r later =
    WritesRight (LineByTextCause k f at text (length room)) (LineByText k f at text) room r later

-- ---- of

-- t is the line of the message of the table that is said; its place and its length are as they are given
pub record LineSaid (sheet : Option Lookup) (IsSaid : Message → Type 0) (at len : ℕ) (t : List ℕ) : Type 0 where
  pub message : Message
  pub good : Good message
  pub said : IsSaid message
  pub is : t ≡ line_with sheet at len message

-- 5 "a field .. outside its limits": no message of the table is said; 4 "lent room too short for the answer", where
-- so much of it is left
pub data SaidCause (sheet : Option Lookup) (IsSaid : Message → Type 0) (at len left : ℕ) : ℕ → Type 0 where
  no-message : ((m : Message) → Good m → IsSaid m → ⊥) → SaidCause sheet IsSaid at len left 5
  short : {t : List ℕ} → LineSaid sheet IsSaid at len t → left < length t → SaidCause sheet IsSaid at len left 4

-- the right size, and the right room afterwards: the line stands at the place `to`, and every other byte is as it was
pub record PutSaid (sheet : Option Lookup) (IsSaid : Message → Type 0) (at len : ℕ) (room : List ℕ) (to size : ℕ)
    (later : List ℕ) : Type 0 where
  pub text : List ℕ
  pub line : LineSaid sheet IsSaid at len text
  pub size_is : size ≡ length text
  pub room-is : later ≡ sets room to text

-- r is the right answer, and `later` the right room afterwards; of a place beyond the room nothing is left
abbrev pub WritesSaid : Option Lookup → (Message → Type 0) → ℕ → ℕ → List ℕ → ℕ → Written → List ℕ → Type 0
WritesSaid sheet IsSaid at len room to r later =
    AnswersInto 0 room (SaidCause sheet IsSaid at len (length room - to)) (PutSaid sheet IsSaid at len room to)
    (written_refusal r) (written_count r) later

-- ---- put_content

-- the message whose content has this tag and payload
abbrev pub HasContent : Tag → List ℕ → Message → Type 0
HasContent tag p m = ContentWith tag p (content_of m)

-- the refusal number and the value of an answer: the place behind the line
abbrev pub ended_refusal : Result ℕ Refusal → ℕ
ended_refusal (Ok behind) = 0
ended_refusal (Err why) = refusal_number why

abbrev pub ended_place : Result ℕ Refusal → ℕ
ended_place (Ok behind) = behind
ended_place (Err why) = 0

-- the right place behind the line, and the right room afterwards: the line is put as far as the room goes
pub record PutContent (sheet : Option Lookup) (tag : Tag) (p : List ℕ) (at len : ℕ) (room : List ℕ) (to behind : ℕ)
    (later : List ℕ) : Type 0 where
  pub text : List ℕ
  pub line : LineSaid sheet (HasContent tag p) at len text
  pub put : Put room later to behind text

-- r is the right answer, and `later` the right room afterwards; refused as `messages::of` is, with 5
abbrev pub PutsContent : Option Lookup → Tag → List ℕ → ℕ → ℕ → List ℕ → ℕ → Result ℕ Refusal → List ℕ → Type 0
PutsContent sheet tag p at len room to r later =
    AnswersInto 0 room (MeantCause (ContentWith tag p)) (PutContent sheet tag p at len room to) (ended_refusal r)
    (ended_place r) later

-- ---- next

-- the refusal number and the values of an answer: the start and the length of the frame, and the place behind its line
abbrev pub Placed : Type 0
Placed = Listed

abbrev pub listed_refusal : Result Listed Refusal → ℕ
listed_refusal (Ok v) = 0
listed_refusal (Err why) = refusal_number why

abbrev pub zero_placed : Placed
zero_placed = record { start = 0; len = 0; behind = 0 }

abbrev pub listed_placed : Result Listed Refusal → Placed
listed_placed (Ok v) = v
listed_placed (Err why) = zero_placed

-- the search's refusals, and 4 "lent room too short for the answer": what is left of the room is shorter than the
-- line of the frame that is found
pub data NextCause (sheet : Option Lookup) (k : ℕ) (s : List ℕ) (place left : ℕ) : ℕ → Type 0 where
  searched : {n : ℕ} → SearchCause k s place n → NextCause sheet k s place left n
  short : {v : Hit} {t : List ℕ} → Leftmost k s place v → LineOf sheet k (frame_part s v) v.start t
      → left < length t → NextCause sheet k s place left 4

-- The right values, and the right room afterwards. The search finds this frame in the capture s, from the place on.
-- Its line stands at the place `to` of the room, and every other byte is as it was.
pub record NextLine (sheet : Option Lookup) (k : ℕ) (s : List ℕ) (place : ℕ) (room : List ℕ) (to : ℕ) (v : Placed)
    (later : List ℕ) : Type 0 where
  pub from : ℕ
  pub end : ℕ
  pub found : Leftmost k s place (record { start = v.start; len = v.len; from = from; to = end })
  pub text : List ℕ
  pub line : LineOf sheet k (part v.start (v.start + v.len) s) v.start text
  pub behind-is : v.behind ≡ to + length text
  pub room-is : later ≡ sets room to text

-- r is the right answer, and `later` the right room afterwards; of a place beyond the room nothing is left
abbrev pub PutsNext : Option Lookup → ℕ → List ℕ → ℕ → List ℕ → ℕ → Result Listed Refusal → List ℕ → Type 0
PutsNext sheet k s place room to r later =
    AnswersInto zero_placed room (NextCause sheet k s place (length room - to)) (NextLine sheet k s place room to)
    (listed_refusal r) (listed_placed r) later

-- ---- measure

-- the refusal number and the values of an answer: the start and the length of the frame, and the size of its line
abbrev pub Size : Type 0
Size = Measured

abbrev pub measured_refusal : Result Measured Refusal → ℕ
measured_refusal (Ok v) = 0
measured_refusal (Err why) = refusal_number why

abbrev pub zero_size : Size
zero_size = record { start = 0; len = 0; size = 0 }

abbrev pub measured_size : Result Measured Refusal → Size
measured_size (Ok v) = v
measured_size (Err why) = zero_size

-- The right values. The search finds this frame in the capture s, from the place on, and its line has `size` bytes.
pub record NextSize (sheet : Option Lookup) (k : ℕ) (s : List ℕ) (place : ℕ) (v : Size) : Type 0 where
  pub from : ℕ
  pub end : ℕ
  pub found : Leftmost k s place (record { start = v.start; len = v.len; from = from; to = end })
  pub text : List ℕ
  pub line : LineOf sheet k (part v.start (v.start + v.len) s) v.start text
  pub size_is : v.size ≡ length text

-- r is the right answer; refused as the search is
abbrev pub Measures : Option Lookup → ℕ → List ℕ → ℕ → Result Measured Refusal → Type 0
Measures sheet k s place r =
    Answers zero_size (SearchCause k s place) (NextSize sheet k s place) (measured_refusal r) (measured_size r)
