-- The six fields of a Homiq command, as the code puts them together.
-- Assumes nothing.
use Rattle.std.specs.Prelude.{List, [], ◌∷◌, ◌≡◌, ℕ, ◌≤◌, pos, Result, Ok, Err, length, take}
use Rattle.digits.specs.Paper.Ascii.{ascii}
use Rattle.layouts.specs.Paper.Made.{Wire}
use Rattle.messages.specs.declared.homiq.Homiq.{Homiq}
use Rattle.messages.specs.declared.homiq.Homiq.TheVariants.{Output, Input, Shutter, Beat, Other}
use Rattle.asked.specs.Paper.Answers.{wired_payload}
use Rattle.shapes.specs.Paper.Shapes.{number, string, wired_fields}
use Rattle.asked.specs.Work.Got.{Slot, slot, between, wire-field, wire-type, ReadsAll}
use Rattle.asked.specs.declared.values.Reason.{Reason}

abbrev pub wired_slots : List Slot
wired_slots =
    slot (ascii "cmd") string (wire-field 8)
    ∷ slot (ascii "val") string (wire-field 16)
    ∷ slot (ascii "src") string (wire-field 4)
    ∷ slot (ascii "dst") string (wire-field 4)
    ∷ slot (ascii "id") number (between (pos 0) (pos 511))
    ∷ slot (ascii "type") string wire-type
    ∷ []

-- the six fields are read, and stand joined at the front of the content; or they are not
pub data Wires (s content : List ℕ) : Result ℕ Reason → Type 0 where
  is : {wire : Wire} {len : ℕ} → ReadsAll s wired_slots (Ok (wired_fields wire)) → len ≤ length content
      → take len content ≡ wired_payload wire → Wires s content (Ok len)
  not : {why : Reason} → ReadsAll s wired_slots (Err why) → Wires s content (Err why)

-- the row of a Homiq message
abbrev pub row_of_homiq : Homiq → ℕ
row_of_homiq Output = 19
row_of_homiq Input = 20
row_of_homiq Shutter = 21
row_of_homiq Beat = 22
row_of_homiq Other = 23
