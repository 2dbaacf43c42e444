-- The bytes in no frame are as many as the last line says.
-- Assumes nothing.
use mathlib.Core.List.{List, [], ◌∷◌}
use mathlib.Core.Path.{◌≡◌, refl, subst}
use Prim.Native.Nat.{ℕ, zero, suc, ◌+◌, ◌-◌, ◌≤◌, ◌<◌}
use native.Mathlib.Omega.{arith}
use lib.ListN.{length}
use Rattle.frames.specs.Paper.Runs.{Run, InOrder, nothing, next, TakenUp, here, there}
use Rattle.frames.specs.Paper.Search.{Hit}
use Rattle.frames.proofs.Theorems.{in_order}
use Rattle.list.specs.Paper.Listing.{inside}
use Rattle.list.specs.Paper.Skipped.{InNone, all, taken, skipped}
use Rattle.list.proofs.Laws.Sizes.{in-capture}

module _ {hits : List Hit} where
  as_many : {from from' to to' n n' : ℕ} → from ≡ from' → to ≡ to' → n ≡ n' → InNone hits from to n → InNone hits from' to' n'
  as_many {from} {from'} {to} {to'} {n} {n'} p q r x =
      subst (λ (a : ℕ). InNone hits a to' n') p (subst (λ (b : ℕ). InNone hits from b n') q (subst (InNone hits from to) r x))

  -- one stretch behind another
  joined : {from mid to m n : ℕ} → InNone hits from mid m → InNone hits mid to n → InNone hits from to (m + n)
  joined {n = n} all y = as_many refl refl (omega arith) y
  joined (taken t x) y = taken t (joined x y)
  joined (skipped f x) y = as_many refl refl (omega arith) (skipped f (joined x y))

  -- a stretch in no frame, and one in a frame
  gap : (n from : ℕ) → ((j : ℕ) → from ≤ j → j < from + n → TakenUp j hits → ⊥) → InNone hits from (from + n) n
  gap zero from f = as_many refl (omega arith) refl all
  gap (suc n) from f =
      let rest = gap n (suc from) (λ j h l. f j (omega arith) (omega arith)) in
      as_many refl (omega arith) refl (skipped (f from (omega arith) (omega arith)) rest)

  covered : (n from : ℕ) → ((j : ℕ) → from ≤ j → j < from + n → TakenUp j hits) → InNone hits from (from + n) 0
  covered zero from f = as_many refl (omega arith) refl all
  covered (suc n) from f =
      let rest = covered n (suc from) (λ j h l. f j (omega arith) (omega arith)) in
      as_many refl (omega arith) refl (taken (f from (omega arith) (omega arith)) rest)

empty : {j : ℕ} → TakenUp j [] → ⊥
empty t = elim t [ ]

-- frames in order take up no place before theirs
none_before : {k : ℕ} {s : List ℕ} {place : ℕ} {hits : List Hit} {j : ℕ} → InOrder k s place hits → TakenUp j hits → place ≤ j
none_before nothing t = elim t [ ]
none_before (next b q r) (here h l) = omega arith
none_before (next b q r) (there t) = let h = none_before r t in omega arith

-- some of the frames, in order from a place on: those that take up what is taken up from there on
counted : {k : ℕ} {s : List ℕ} {place : ℕ} {whole hits : List Hit} → InOrder k s place hits → place ≤ length s
    → ((j : ℕ) → place ≤ j → TakenUp j whole → TakenUp j hits) → ((j : ℕ) → TakenUp j hits → TakenUp j whole)
    → InNone whole place (length s) (length s - (place + inside hits))
unfolding inside
counted {s = s} {place = place} nothing h f g = as_many refl (omega arith) (omega arith) (gap (length s - place) place (λ j a b t. empty (f j a t)))
counted {s = s} {place = place} {whole = whole} (next {v = v} {later = later} b q r) h f g =
    let l = in-capture r q.inside in
    let x : InNone whole place v.start (v.start - place) = as_many refl (omega arith) refl (gap (v.start - place) place (λ j a c t. before j a (omega arith) (f j a t))) in
    let y : InNone whole v.start (v.start + v.len) 0 = covered v.len v.start (λ j a c. g j (here a c)) in
    let z = counted r q.inside (λ j a t. behind j a (f j (omega arith) t)) (λ j t. g j (there t)) in
    as_many refl refl (omega arith) (joined x (joined y z))
  where
    before : (j : ℕ) → place ≤ j → j < v.start → TakenUp j (v ∷ later) → ⊥
    before j a c (here m n) = omega arith
    before j a c (there t) = let m = none_before r t in omega arith

    behind : (j : ℕ) → v.start + v.len ≤ j → TakenUp j (v ∷ later) → TakenUp j later
    behind j a (here m n) = absurd (omega arith)
    behind j a (there t) = t

pub skipped-count : {k : ℕ} {s : List ℕ} {hits : List Hit} → Run k s 0 hits → InNone hits 0 (length s) (length s - inside hits)
skipped-count r = as_many refl refl (omega arith) (counted (in_order r) (omega arith) (λ j a t. t) (λ j t. t))
