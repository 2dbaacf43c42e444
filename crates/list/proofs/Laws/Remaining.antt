-- What is left of a capture's listing: all of it at the start, a line less behind a frame, and the last line where no frame is left.
-- Assumes nothing.
use mathlib.Core.Bool.{true, true≢false}
use mathlib.Core.List.{List, [], ◌∷◌, ◌++◌, append_assoc}
use mathlib.Core.Option.{Option}
use mathlib.Core.Path.{◌≡◌, refl, sym, ap, ap₂, ◌∙◌, subst}
use Prim.Native.Nat.{ℕ, ◌+◌, ◌-◌, ◌≤◌}
use native.Mathlib.Omega.{arith}
use lib.ListN.{length}
use Rattle.digits.specs.Paper.Bytes.{part}
use Rattle.digits.specs.Paper.Refusals.{refusal_number}
use Rattle.digits.specs.declared.refusal.Refusal.{Refusal}
use Rattle.digits.specs.declared.refusal.Refusal.TheVariants.{NoFrame}
use Rattle.digits.proofs.Laws.Refusals.{one-refusal, some_number, cause-of, cause-at}
use Rattle.frames.specs.Paper.Kinds.{known}
use Rattle.frames.specs.Paper.Runs.{ends, finds}
use Rattle.frames.specs.Paper.Search.{Hit, SearchCause, no-frame, no_kind, no_place, Searches}
use Rattle.std.specs.Prelude.{Ok, Err}
use Rattle.lines.specs.Paper.Answers.{LineOf}
use Rattle.sheet.specs.Paper.Sheet.{Lookup}
use Rattle.list.specs.Paper.Listing.{none, line, inside, last_line, Lists}
use Rattle.list.specs.Work.Remaining.{Remaining}

-- ---- what is left

-- all of it
pub from_start : {sheet : Option Lookup} {k : ℕ} {s t : List ℕ} → Remaining sheet k s 0 0 0 t → Lists sheet k s t
from_start {s = s} {t = t} r =
    let n : 0 + length r.frames ≡ length r.frames = omega arith in
    let m : length s - (0 + inside r.frames) ≡ length s - inside r.frames = omega arith in
    record { frames = r.frames; run = r.run; lines = r.lines; each = r.each; is = r.is ∙ ap₂ (λ (x y : ℕ). r.lines ++ last_line x y) n m }

module _ {sheet : Option Lookup} {k : ℕ} {s : List ℕ} {place : ℕ} where
  -- a found frame's line, and what is left behind it
  pub found-line : {start len from to count within : ℕ} {u t : List ℕ} → Searches k s place (Ok (record { start = start; len = len; from = from; to = to })) → LineOf sheet k (part start (start + len) s) start u
      → Remaining sheet k s (start + len) (count + 1) (within + len) t → Remaining sheet k s place count within (u ++ t)
  unfolding inside
  found-line {start} {len} {from} {to} {count} {within} {u} {t} a l r =
      let v : Hit = record { start = start; len = len; from = from; to = to } in
      let n : count + 1 + length r.frames ≡ count + length (v ∷ r.frames) = omega arith in
      let m : length s - (within + len + inside r.frames) ≡ length s - (within + inside (v ∷ r.frames)) = omega arith in
      record {
        frames = v ∷ r.frames;
        run = finds a r.run;
        lines = u ++ r.lines;
        each = line {v = v} l r.each;
        is =
            ap (λ (x : List ℕ). u ++ x) (r.is ∙ ap₂ (λ (x y : ℕ). r.lines ++ last_line x y) n m)
            ∙ sym (append_assoc u r.lines (last_line (count + length (v ∷ r.frames)) (length s - (within + inside (v ∷ r.frames)))));
      }

  -- no frame is left
  pub last-left : {count within : ℕ} → Searches k s place (Err NoFrame) → Remaining sheet k s place count within (last_line count (length s - within))
  unfolding inside
  last-left {count} {within} a =
      let n : count ≡ count + length {A = Hit} [] = omega arith in
      let m : length s - within ≡ length s - (within + inside []) = omega arith in
      record { frames = []; run = ends a; lines = []; each = none; is = ap₂ (λ (x y : ℕ). last_line x y) n m }

-- ---- a search of a known kind from a place in the capture is refused only where no frame is left

pub refused_none : {k : ℕ} {s : List ℕ} {place : ℕ} (why : Refusal) → known k ≡ true → place ≤ length s → Searches k s place (Err why) → Searches k s place (Err NoFrame)
refused_none {k} {s} {place} why kn h a =
    let c = cause-at (cause-of a) (some_number why) in
    subst (λ (r : Refusal). Searches k s place (Err r)) (one-refusal why NoFrame (of (refusal_number why) c)) a
  where
    of : (n : ℕ) → SearchCause k s place n → n ≡ 1
    of n (no-frame f) = refl
    of n (no_kind e) = absurd (true≢false (sym kn ∙ e))
    of n (no_place l) = absurd (omega arith)
