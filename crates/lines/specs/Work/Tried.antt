-- What comes of trying to put the next line.
-- Assumes nothing.
use Rattle.std.specs.Prelude.{Bool, true, false, Result, Ok, Err, List, ◌≡◌, ℕ, ◌+◌, ◌-◌, ◌≤◌, length}
use Rattle.std.proofs.Math.Option.{Option}
use Rattle.digits.specs.Paper.Bytes.{part}
use Rattle.digits.specs.declared.refusal.Refusal.{Refusal}
use Rattle.puts.specs.Paper.Put.{Put}
use Rattle.frames.specs.Paper.Search.{Hit, Leftmost, Searches}
use Rattle.sheet.specs.Paper.Sheet.{Lookup}
use Rattle.lines.specs.Paper.Answers.{LineOf, Placed}
use Rattle.lines.specs.Work.Put.{most_beside}
use Rattle.lines.specs.declared.Tried.{Tried}
use Rattle.lines.specs.declared.Tried.TheVariants.{At, Unsure}

-- r is whether a line is put: it is put in any case, or no line with `beside` bytes beside its message is longer than
-- `bytes`
abbrev pub MayPut : Option Lookup → Bool → (beside bytes : ℕ) → Bool → Type 0
MayPut sheet sure beside bytes true = sure ≡ false → most_beside sheet beside ≤ bytes
MayPut sheet sure beside bytes false = sure ≡ false

pub record Surely (sheet : Option Lookup) (sure : Bool) (beside bytes : ℕ) (r : Bool) : Type 0 where
  pub may-put : MayPut sheet sure beside bytes r

-- the line of what is found is put as far as the room goes; all of it, unless it is put in any case
pub record Clipped (sheet : Option Lookup) (k : ℕ) (s : List ℕ) (place : ℕ) (sure : Bool) (room : List ℕ) (to : ℕ)
    (v : Placed) (later : List ℕ) : Type 0 where
  pub from : ℕ
  pub end : ℕ
  pub found : Leftmost k s place (record { start = v.start; len = v.len; from = from; to = end })
  pub text : List ℕ
  pub line : LineOf sheet k (part v.start (v.start + v.len) s) v.start text
  pub put : Put room later to v.behind text
  pub fits : sure ≡ false → length text ≤ length room - to

abbrev pub Comes : Option Lookup → ℕ → List ℕ → ℕ → Bool → List ℕ → ℕ → Result Tried Refusal → List ℕ → Type 0
Comes sheet k s place sure room to (Ok (At v)) later =
    Clipped sheet k s place sure room to v later
Comes sheet k s place sure room to (Ok (Unsure start)) later =
    (sure ≡ false) × (later ≡ room) × ((v : Hit) × (Leftmost k s place v) × (v.start ≡ start))
Comes sheet k s place sure room to (Err why) later = (Searches k s place (Err why)) × (later ≡ room)

-- r is right, and `later` the room afterwards
pub record Tries (sheet : Option Lookup) (k : ℕ) (s : List ℕ) (place : ℕ) (sure : Bool) (room : List ℕ) (to : ℕ)
    (r : Result Tried Refusal) (later : List ℕ) : Type 0 where
  pub comes : Comes sheet k s place sure room to r later
