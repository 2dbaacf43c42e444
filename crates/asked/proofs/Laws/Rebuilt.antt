-- A message is known by its row and its fields; and each message's shape has its kind and its name.
-- Assumes nothing.
use mathlib.Core.Bool.{Bool, false}
use mathlib.Core.List.{List, [], ◌∷◌}
use mathlib.Core.Path.{◌≡◌, refl, sym, ap, ◌∙◌}
use Prim.Native.Nat.{ℕ, ◌+◌, ◌*◌, ◌/◌, ◌%◌}
use native.Mathlib.Omega.{arith}
use lib.IntN.{pos, nat_abs}
use lib.ListN.{get_or}
use Rattle.frames.specs.Paper.Kinds.{number_of}
use Rattle.layouts.specs.Paper.Made.{Wire}
use Rattle.messages.specs.Paper.Content.{kind_of}
use Rattle.messages.specs.Paper.Message.{Message, read, set, answer, press, tail, link, command, climate, state, break, end, text, response, ask, reply, put, done, nibe, output, input, shutter, beat, homiq, row, name}
use Rattle.messages.specs.Paper.Table.{content_of}
use Rattle.shapes.specs.Paper.Fields.{whole, hex, chars, truth, Field, plain, reading}
use Rattle.shapes.specs.Paper.Shapes.{shape_at, fields_of}
use Rattle.asked.specs.Work.Got.{number_in, list_in}

-- ---- a field's number, list or truth, whatever the field

abbrev natural_in : Field → ℕ
natural_in f = nat_abs (number_in f)

abbrev address_in : Field → ℕ
address_in f = get_or (list_in f) 0 0 * 256 + get_or (list_in f) 1 0

abbrev truth_in : Field → Bool
truth_in (plain (whole z)) = false
truth_in (plain (hex p)) = false
truth_in (plain (chars p)) = false
truth_in (plain (truth b)) = b
truth_in (reading z d) = false

-- the field of a number in a list of fields
abbrev none : Field
none = plain (whole (pos 0))

abbrev nth : ℕ → List Field → Field
nth i fs = get_or fs i none

abbrev wire_in : List Field → Wire
wire_in fs =
    record {
      cmd = list_in (nth 0 fs);
      val = list_in (nth 1 fs);
      src = list_in (nth 2 fs);
      dst = list_in (nth 3 fs);
      id = natural_in (nth 4 fs);
      type = get_or (list_in (nth 5 fs)) 0 0;
    }

-- the messages of the rows, from fields
builders : List (List Field → Message)
builders =
    (λ fs. tail)
    ∷ (λ fs. read (natural_in (nth 0 fs)) (address_in (nth 1 fs)))
    ∷ (λ fs. set (natural_in (nth 0 fs)) (address_in (nth 1 fs)) (list_in (nth 2 fs)))
    ∷ (λ fs. answer (address_in (nth 0 fs)) (natural_in (nth 1 fs)) (list_in (nth 2 fs)))
    ∷ (λ fs. press (list_in (nth 0 fs)))
    ∷ (λ fs. tail)
    ∷ (λ fs. link (list_in (nth 0 fs)))
    ∷ (λ fs. command (natural_in (nth 0 fs)) (list_in (nth 1 fs)))
    ∷ (λ fs. climate (number_in (nth 0 fs)) (natural_in (nth 1 fs)))
    ∷ (λ fs. state (list_in (nth 3 fs)))
    ∷ (λ fs. break)
    ∷ (λ fs. end)
    ∷ (λ fs. text (natural_in (nth 0 fs)) (list_in (nth 1 fs)))
    ∷ (λ fs. response (natural_in (nth 0 fs)) (list_in (nth 1 fs)))
    ∷ (λ fs. ask (natural_in (nth 0 fs)))
    ∷ (λ fs. reply (natural_in (nth 0 fs)) (natural_in (nth 1 fs)) (natural_in (nth 2 fs)))
    ∷ (λ fs. put (natural_in (nth 0 fs)) (natural_in (nth 1 fs)) (natural_in (nth 2 fs)))
    ∷ (λ fs. done (truth_in (nth 0 fs)))
    ∷ (λ fs. nibe (natural_in (nth 0 fs)) (list_in (nth 1 fs)))
    ∷ (λ fs. output (wire_in fs))
    ∷ (λ fs. input (wire_in fs))
    ∷ (λ fs. shutter (wire_in fs))
    ∷ (λ fs. beat (wire_in fs))
    ∷ (λ fs. homiq (wire_in fs))
    ∷ []

unfoldable pub build : ℕ → List Field → Message
unfolding builders
build r fs = get_or builders r (λ fs. tail) fs

two_bytes : (a : ℕ) → a / 256 * 256 + a % 256 ≡ a
two_bytes a = omega arith

rebuilt : (m : Message) → build (row m) (fields_of m) ≡ m
unfolding build builders fields_of
rebuilt (read g a) = ap (read g) (two_bytes a)
rebuilt (set g a out) = ap (λ (n : ℕ). set g n out) (two_bytes a)
rebuilt (answer a third out) = ap (λ (n : ℕ). answer n third out) (two_bytes a)
rebuilt (press d) = refl
rebuilt tail = refl
rebuilt (link p) = refl
rebuilt (command i p) = refl
rebuilt (climate t h) = refl
rebuilt (state p) = refl
rebuilt break = refl
rebuilt end = refl
rebuilt (text i p) = refl
rebuilt (response i p) = refl
rebuilt (ask r) = refl
rebuilt (reply r w v) = refl
rebuilt (put r w v) = refl
rebuilt (done ok) = refl
rebuilt (nibe c d) = refl
rebuilt (output w) = refl
rebuilt (input w) = refl
rebuilt (shutter w) = refl
rebuilt (beat w) = refl
rebuilt (homiq w) = refl

-- A MESSAGE IS KNOWN by its row and its fields
pub built : {r : ℕ} {fs : List Field} (m : Message) → row m ≡ r → fields_of m ≡ fs → m ≡ build r fs
built m e f = sym (rebuilt m) ∙ rw (e, f)

-- THE SHAPE of a message has its kind and its name
pub shape-kind : (m : Message) → (shape_at (row m)).kind ≡ number_of (kind_of (content_of m))
unfolding content_of
shape-kind (read g a) = refl
shape-kind (set g a out) = refl
shape-kind (answer a third out) = refl
shape-kind (press d) = refl
shape-kind tail = refl
shape-kind (link p) = refl
shape-kind (command i p) = refl
shape-kind (climate t h) = refl
shape-kind (state p) = refl
shape-kind break = refl
shape-kind end = refl
shape-kind (text i p) = refl
shape-kind (response i p) = refl
shape-kind (ask r) = refl
shape-kind (reply r w v) = refl
shape-kind (put r w v) = refl
shape-kind (done ok) = refl
shape-kind (nibe c d) = refl
shape-kind (output w) = refl
shape-kind (input w) = refl
shape-kind (shutter w) = refl
shape-kind (beat w) = refl
shape-kind (homiq w) = refl

pub shape-msg : (m : Message) → (shape_at (row m)).msg ≡ name m
shape-msg (read g a) = refl
shape-msg (set g a out) = refl
shape-msg (answer a third out) = refl
shape-msg (press d) = refl
shape-msg tail = refl
shape-msg (link p) = refl
shape-msg (command i p) = refl
shape-msg (climate t h) = refl
shape-msg (state p) = refl
shape-msg break = refl
shape-msg end = refl
shape-msg (text i p) = refl
shape-msg (response i p) = refl
shape-msg (ask r) = refl
shape-msg (reply r w v) = refl
shape-msg (put r w v) = refl
shape-msg (done ok) = refl
shape-msg (nibe c d) = refl
shape-msg (output w) = refl
shape-msg (input w) = refl
shape-msg (shutter w) = refl
shape-msg (beat w) = refl
shape-msg (homiq w) = refl
