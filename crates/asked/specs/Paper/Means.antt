-- 02, K4: which message a text means.
-- Assumes nothing.
use Rattle.std.specs.Prelude.{List, [], ◌∷◌, ◌≡◌, ℕ, ◌≤◌, length}
use Rattle.digits.specs.Paper.Ascii.{ascii}
use Rattle.messages.specs.Paper.Message.{Message, state, row}
use Rattle.shapes.specs.Paper.Fields.{Named, ◌∶◌, chars, Field, plain}
use Rattle.asked.specs.Paper.Field.{Spells, Has, HasEach, IsObjectOf}
use Rattle.shapes.specs.Paper.Shapes.{Sort, IsOf, Shape, shape_at, number_field, fields_of}

-- ---- the members of a command

-- each field under its name
unfoldable pub named : List (Named Sort) → List Field → List (Named Field)
named [] fs = []
named (m ∷ ms) [] = []
named (m ∷ ms) (f ∷ fs) = m.name ∶ f ∷ named ms fs

-- `kind`, `msg`, and the fields
abbrev pub commanded : Shape → List Field → List (Named Field)
commanded sh fs =
    ascii "kind" ∶ number_field sh.kind ∷ ascii "msg" ∶ plain (chars sh.msg) ∷ named sh.members fs

-- each is of its sort
pub data AreOf : List (Named Sort) → List Field → Type 0 where
  none : AreOf [] []
  and : {m : Named Sort} {ms : List (Named Sort)} {f : Field} {fs : List Field}
      → IsOf m.value f → AreOf ms fs → AreOf (m ∷ ms) (f ∷ fs)

-- ---- what fills a shape

-- the rows of the table
abbrev pub last_row : ℕ
last_row = 23

abbrev pub state_row : ℕ
state_row = 9

-- "and a state's voltages with its data", which end at its byte 13
abbrev pub least_volts : ℕ
least_volts = 14

pub record VoltsAgree (fs : List Field) : Type 0 where
  pub payload : List ℕ
  pub enough : least_volts ≤ length payload
  pub is : fs ≡ fields_of (state payload)

-- these fields are of the sorts of row r, and agree
pub record Fields (r : ℕ) (fs : List Field) : Type 0 where
  pub sorts : AreOf (shape_at r).members fs
  pub agree : r ≡ state_row → VoltsAgree fs

-- the object s has the kind and the msg of row r
pub record HeadOf (s : List ℕ) (r : ℕ) : Type 0 where
  pub low : 1 ≤ r
  pub high : r ≤ last_row
  pub kind : Has Spells s (ascii "kind" ∶ number_field (shape_at r).kind)
  pub msg : Has Spells s (ascii "msg" ∶ plain (chars (shape_at r).msg))

-- the object s has fields of row r, whatever their limits
pub record HasRow (s : List ℕ) (r : ℕ) : Type 0 where
  pub fields : List Field
  pub of : Fields r fields
  pub each : HasEach Spells s (named (shape_at r).members fields)

-- s fills the shape of row r with these fields, whatever their limits
pub record Fills (s : List ℕ) (r : ℕ) (fs : List Field) : Type 0 where
  pub low : 1 ≤ r
  pub high : r ≤ last_row
  pub fields : Fields r fs
  pub object : IsObjectOf Spells s (commanded (shape_at r) fs)

-- s means m: it fills the shape of m with m's fields
abbrev pub Means : List ℕ → Message → Type 0
Means s m = IsObjectOf Spells s (commanded (shape_at (row m)) (fields_of m))
