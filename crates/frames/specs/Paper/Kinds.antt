-- 01, "Kinds and frames": "A kind is a bus and direction: 1 Nikobus, 2 Nest command, 3 Nest response, 4 Nibe, 5
-- Homiq." Inside the library a kind is a case of the code's enum; the tables here say what a kind is, a line a kind.
-- Assumes nothing.
use Rattle.std.specs.Prelude.{Bool, false, List, [], ◌∷◌, ◌≡◌, ℕ, Option, Some, None}
use Rattle.digits.specs.Paper.Refusals.{Answers}
use Rattle.layouts.specs.declared.nest.Direction.TheVariants.{Command, Response}
use Rattle.layouts.specs.Paper.Chars.{one_of}
use Rattle.layouts.specs.Paper.Layout.{Layout}
use Rattle.layouts.specs.Paper.Layout as layout
use Rattle.layouts.specs.Paper.Nikobus as nikobuses
use Rattle.layouts.specs.Paper.Nest as nests
use Rattle.layouts.specs.Paper.Nibe as nibes
use Rattle.layouts.specs.Paper.Homiq as homiqs
use Rattle.frames.specs.declared.kinds.Kind.{Kind}
use Rattle.frames.specs.declared.kinds.Kind.TheVariants.{Nikobus, NestCommand, NestResponse, Nibe, Homiq}

-- "1 Nikobus, 2 Nest command, 3 Nest response, 4 Nibe, 5 Homiq"
abbrev pub number_of : Kind → ℕ
number_of Nikobus = 1
number_of NestCommand = 2
number_of NestResponse = 3
number_of Nibe = 4
number_of Homiq = 5

-- the layout of a kind's frames
abbrev pub layout_of : Kind → Layout
layout_of Nikobus = nikobuses.nikobus
layout_of NestCommand = nests.nest Command
layout_of NestResponse = nests.nest Response
layout_of Nibe = nibes.nibe
layout_of Homiq = homiqs.homiq

-- the numbers that a caller may ask for: "kind not 1 to 5" is refused
abbrev pub known_kinds : List ℕ
known_kinds = 1 ∷ 2 ∷ 3 ∷ 4 ∷ 5 ∷ []

unfoldable pub known : ℕ → Bool
known k = one_of known_kinds k

-- 01, "Refusal numbers": 2 "kind not 1 to 5"
pub data KindCause (k : ℕ) : ℕ → Type 0 where
  no_kind : known k ≡ false → KindCause k 2

-- the refusal number and the value of what a number is resolved to: its kind has that number
abbrev pub resolved_refusal : Option Kind → ℕ
resolved_refusal (Some kind) = 0
resolved_refusal None = 2

abbrev pub resolved_value : Option Kind → ℕ
resolved_value (Some kind) = number_of kind
resolved_value None = 0

-- r is the right answer
abbrev pub Resolves : ℕ → Option Kind → Type 0
Resolves k r = Answers 0 (KindCause k) (λ v. v ≡ k) (resolved_refusal r) (resolved_value r)

-- f is a frame of the kind with the number k
pub record Frame (k : ℕ) (f : List ℕ) : Type 0 where
  pub kind : Kind
  pub number : number_of kind ≡ k
  pub frame : layout.FrameBy (layout_of kind) f

-- where its payload begins and ends in it
abbrev pub payload_from : {k : ℕ} {f : List ℕ} → Frame k f → ℕ
payload_from r = layout.payload_from (layout_of r.kind) r.frame.form.fields

abbrev pub payload_to : {k : ℕ} {f : List ℕ} → Frame k f → ℕ
payload_to r = layout.payload_to (layout_of r.kind) r.frame.form.fields
