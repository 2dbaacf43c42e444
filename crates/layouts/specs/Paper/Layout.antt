-- 01, "Kinds and frames": what a layout is, and what it is for bytes to be a frame.
-- Assumes nothing.
use Rattle.std.specs.Prelude.{List, [], ◌∷◌, ◌++◌, ◌≡◌, ℕ, ◌+◌, ◌≤◌, length, take, Option, Some, None}
use Rattle.checks.specs.Paper.Check.{Check, check}
use Rattle.layouts.specs.declared.Compared.{Compared}
use Rattle.layouts.specs.declared.Frame.{Frame}

-- A layout: the fields of a frame, among them the check values that stand in it; their limits; the bytes that they
-- make, before the payload, the payload, and behind it; of each check, in the order of the tests, the value that
-- stands in the frame (`found`) and the one that is worked out (`expected`); and of bytes from a place on, whether
-- the start mark is there, and whether the length is, and as many bytes.
pub record Layout : Type 1 where
  pub Fields : Type 0
  pub Limits : Fields → Type 0
  pub before : Fields → List ℕ
  pub payload : Fields → List ℕ
  pub behind : Fields → List ℕ
  pub compared : Fields → List Compared
  pub Begun : List ℕ → Type 0
  pub Long : List ℕ → Type 0

-- each value that stands in the frame is the one that is worked out
pub data Agree : List Compared → Type 0 where
  all-agree : Agree []
  agree : {c : Compared} {later : List Compared} → c.found ≡ c.expected → Agree later → Agree (c ∷ later)

-- a check, the bytes that it covers, and the value that stands in the frame
pub record Checked : Type 0 where
  pub check : Check
  pub bytes : List ℕ
  pub value : ℕ

-- its two values
abbrev pub compared_in : Checked → Compared
compared_in c = record { found = c.value; expected = check c.check c.bytes }

-- s starts with the bytes of p
abbrev pub StartsWith : List ℕ → List ℕ → Type 0
StartsWith p s = take (length p) s ≡ p

-- the bytes of the fields, and the place where the payload ends
abbrev pub bytes_of : (l : Layout) → l.Fields → List ℕ
bytes_of l m = l.before m ++ l.payload m ++ l.behind m

abbrev pub payload_from : (l : Layout) → l.Fields → ℕ
payload_from l m = length (l.before m)

abbrev pub payload_to : (l : Layout) → l.Fields → ℕ
payload_to l m = length (l.before m) + length (l.payload m)

-- f is laid out so, whatever its check values are
pub record Form (l : Layout) (f : List ℕ) : Type 0 where
  pub fields : l.Fields
  pub limits : l.Limits fields
  pub laid : f ≡ bytes_of l fields

-- f is a frame: it is laid out so, and its check values are right
pub record FrameBy (l : Layout) (f : List ℕ) : Type 0 where
  pub form : Form l f
  pub passes : Agree (l.compared form.fields)

-- what is answered of a frame of n bytes: how long it is, and where its payload begins and ends
abbrev pub frame_of : (l : Layout) → ℕ → l.Fields → Frame
frame_of l n m = record { len = n; from = payload_from l m; to = payload_to l m }

-- This frame stands at the head of s, or none does.
pub data Leads (l : Layout) (s : List ℕ) : Option Frame → Type 0 where
  leads : {n : ℕ} → n ≤ length s → (f : FrameBy l (take n s)) → Leads l s (Some (frame_of l n f.form.fields))
  none : ((n : ℕ) → n ≤ length s → FrameBy l (take n s) → ⊥) → Leads l s None
