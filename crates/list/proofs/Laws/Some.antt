-- Every input has a listing: the searches come to an end, since each begins behind the frame before, and every frame has a message.
-- Assumes nothing.
use mathlib.Core.Bool.{true}
use mathlib.Core.List.{List, [], ◌∷◌, ◌++◌}
use mathlib.Core.Option.{Option}
use mathlib.Core.Path.{◌≡◌, refl}
use Prim.Native.Nat.{ℕ, zero, suc, ◌+◌, ◌-◌, ◌≤◌, ◌<◌}
use native.Mathlib.Decide.{dec_le}
use native.Mathlib.Omega.{arith}
use lib.ListN.{length}
use Rattle.frames.specs.Paper.Kinds.{known}
use Rattle.frames.specs.Paper.Runs.{Run, ends, finds, InOrder, nothing, next}
use Rattle.frames.specs.Paper.Search.{Hit, frame_part, Searches}
use Rattle.frames.specs.Work.Seek.{searched}
use Rattle.frames.specs.declared.Found.{Found}
use Rattle.digits.specs.declared.refusal.Refusal.{Refusal}
use Rattle.std.specs.Prelude.{Result, Ok, Err}
use Rattle.frames.proofs.Laws.Places.{positive}
use Rattle.frames.proofs.Laws.Runs.{leftmost}
use Rattle.frames.proofs.Theorems.{an-answer, in_order}
use Rattle.messages.proofs.Theorems.{has-message}
use Rattle.lines.specs.Paper.WithSheet as paper
use Rattle.sheet.specs.Paper.Sheet.{Lookup}
use Rattle.list.specs.Paper.Listing.{Lines, none, line, inside, last_line, Lists, Input, most_input, refused_with, Listing, bad-start, too_long, bad-sheet, listed}
use Rattle.list.specs.Work.Remaining.{Remaining}
use Rattle.list.proofs.Laws.Inputs.{begins-or-not}
use Rattle.list.proofs.Laws.Remaining.{from_start, refused_none}

-- at most so many bytes are left
a-run : (most k : ℕ) (s : List ℕ) (place : ℕ) → known k ≡ true → place ≤ length s → length s < place + most → (hits : List Hit) × Run k s place hits
a-run zero k s place kn h m = absurd (omega arith)
a-run (suc most) k s place kn h m = go (searched k s place) (an-answer k s place) (λ p l n. a-run most k s p kn l n)
  where
    go : (r : Result Found Refusal) → Searches k s place r → ((p : ℕ) → p ≤ length s → length s < p + most → (hits : List Hit) × Run k s p hits) → (hits : List Hit) × Run k s place hits
    go (Ok v) a rest =
        let q = leftmost a in
        let l = positive q.stands in
        let r = rest (v.start + v.len) q.stands.inside (omega (arith, q.behind)) in
        (v ∷ r.0, finds a r.1)
    go (Err why) a rest = ([], ends (refused_none why kn h a))

some-lines : {sheet : Option Lookup} {k : ℕ} {s : List ℕ} {place : ℕ} {hits : List Hit} → InOrder k s place hits → (t : List ℕ) × Lines sheet k s hits t
some-lines nothing = ([], none)
some-lines {sheet} {s = s} (next {v = v} b q r) =
    let m = has-message q.frame in
    let ts = some-lines r in
    (paper.line_with sheet v.start (length (frame_part s v)) m.0 ++ ts.0, line {v = v} (record { message = m.0; stands = m.1; is = refl }) ts.1)

-- whatever was found before, something is left from a place on
pub some-rest : (sheet : Option Lookup) (k : ℕ) (s : List ℕ) (place count within : ℕ) → known k ≡ true → place ≤ length s → (t : List ℕ) × Remaining sheet k s place count within t
some-rest sheet k s place count within kn h =
    let r = a-run (suc (length s)) k s place kn h (omega arith) in
    let ts = some-lines (in_order r.1) in (
      ts.0 ++ last_line (count + length r.0) (length s - (within + inside r.0)),
      record { frames = r.0; run = r.1; lines = ts.0; each = ts.1; is = refl },
    )

pub some-lists : (sheet : Option Lookup) (k : ℕ) (s : List ℕ) → known k ≡ true → (t : List ℕ) × Lists sheet k s t
some-lists sheet k s kn = let r = some-rest sheet k s 0 0 0 kn (omega arith) in (r.0, from_start r.1)

-- every input has one, where it is told whether a sheet is given
pub some-listing : {Given : Option Lookup → Type 0} → Dec ((sheet : Option Lookup) × Given sheet) → (s : List ℕ) → (t : List ℕ) × Listing Given s t
some-listing {Given} given s = go given (begins-or-not s) (dec_le (length s) most_input)
  where
    go : Dec ((sheet : Option Lookup) × Given sheet) → Dec (Input s) → Dec (length s ≤ most_input) → (t : List ℕ) × Listing Given s t
    go g (no f) d = (refused_with 2, bad-start f)
    go g (yes i) (no h) = (refused_with 5, too_long i (omega arith))
    go (no f) (yes i) (yes h) = (refused_with 10, bad-sheet i h (λ sheet g. f (sheet, g)))
    go (yes g) (yes i) (yes h) = let l = some-lists g.0 i.kind i.capture i.is-kind in (l.0, listed g.1 i h l.1)
