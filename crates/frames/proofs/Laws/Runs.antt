-- One search after the other: the frames stand in order, and none begins in between.
-- Assumes nothing.
use mathlib.Core.List.{List, ◌∷◌}
use mathlib.Core.Path.{◌≡◌, refl}
use Prim.Native.Nat.{ℕ, ◌+◌, ◌≤◌}
use native.Mathlib.Decide.{dec_le}
use native.Mathlib.Omega.{arith}
use Rattle.std.specs.Prelude.{Ok, Err}
use Rattle.digits.proofs.Laws.Refusals.{answered, cause-of, cause-at}
use Rattle.digits.specs.declared.refusal.Refusal.TheVariants.{NoFrame}
use Rattle.frames.specs.Paper.Runs.{Run, InOrder, TakenUp}
use Rattle.frames.specs.Paper.Search.{FrameAt, Hit, Leftmost, SearchCause, no-frame, no_kind, no_place, Searches}
use Rattle.frames.specs.Paper.Runs as R

-- what an answer says
pub leftmost : {k : ℕ} {s : List ℕ} {place : ℕ} {v : Hit} → Searches k s place (Ok v) → Leftmost k s place v
leftmost a = answered a refl

pub none_found : {k : ℕ} {s : List ℕ} {place : ℕ} → Searches k s place (Err NoFrame) → (j m : ℕ) → place ≤ j → FrameAt k s j m → ⊥
none_found {k} {s} {place} a = of 1 (cause-at (cause-of a) (omega arith)) refl
  where
    of : (n : ℕ) → SearchCause k s place n → n ≡ 1 → (j m : ℕ) → place ≤ j → FrameAt k s j m → ⊥
    of n (no-frame f) e = f
    of n (no_kind h) e = absurd (omega arith)
    of n (no_place h) e = absurd (omega arith)

pub in_order : {k : ℕ} {s : List ℕ} {place : ℕ} {hits : List Hit} → Run k s place hits → InOrder k s place hits
in_order (R.ends a) = R.nothing
in_order (R.finds a r) = let q = leftmost a in R.next q.behind q.stands (in_order r)

pub none_between : {k : ℕ} {s : List ℕ} {place : ℕ} {hits : List Hit} → Run k s place hits
    → (j m : ℕ) → place ≤ j → FrameAt k s j m → TakenUp j hits
none_between (R.ends a) j m h q = absurd (none_found a j m h q)
none_between {k} {s} (R.finds {place = place} {v = v} {later = later} a r) j m h q =
    go (dec_le v.start j) (dec_le (v.start + v.len) j) (leftmost a) (λ l. none_between r j m l q)
  where
    go : Dec (v.start ≤ j) → Dec (v.start + v.len ≤ j) → Leftmost k s place v → (v.start + v.len ≤ j → TakenUp j later) → TakenUp j (v ∷ later)
    go (no f) d l rest = absurd (l.none_before j m h (omega arith) q)
    go (yes e) (yes d) l rest = R.there (rest d)
    go (yes e) (no f) l rest = R.here {v = v} e (omega arith)
