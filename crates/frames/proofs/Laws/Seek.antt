-- The search, a place at a time, and that what it computes is the right answer.
-- Assumes nothing.
use mathlib.Core.Bool.{Bool, true, false, cond}
use mathlib.Core.List.{List}
use mathlib.Core.Logic.{⊎_elim}
use mathlib.Core.Path.{◌≡◌, refl, sym, ◌∙◌, ap, subst}
use Prim.Native.Nat.{ℕ, zero, suc, ◌+◌, ◌-◌, ◌≤◌, ◌<◌}
use native.Mathlib.Nat.{eq-or-lt_of_le, le_of_suc-le-suc}
use native.Mathlib.Numerals.{add-one}
use native.Mathlib.Omega.{arith}
use lib.Dec.{leb}
use lib.ListN.{length}
use borrow.Author.Tests.{leb-true, leb-false}
use Rattle.std.specs.Prelude.{Option, Some, None, Result, Ok, Err}
use Rattle.digits.specs.Paper.Refusals.{answers, refuses}
use Rattle.digits.specs.declared.refusal.Refusal.{Refusal}
use Rattle.digits.specs.declared.refusal.Refusal.TheVariants.{NoFrame, NoKind, NoPlace}
use Rattle.layouts.specs.declared.Frame.{Frame}
use Rattle.frames.specs.Paper.Kinds.{number_of, known, Resolves}
use Rattle.frames.specs.Paper.Search.{FrameAt, Searches}
use Rattle.frames.specs.Work.Frames.{frame_at}
use Rattle.frames.specs.Work.Seek.{found_at, or_else, seek_among, seek, resolved, searched_as, searched}
use Rattle.frames.specs.declared.Found.{Found}
use Rattle.frames.specs.declared.kinds.Kind.{Kind}
use Rattle.frames.proofs.Laws.Causes.{search-0, search-1, search-2, search-3}
use Rattle.frames.proofs.Laws.Kinds.{kind-known, known_of, resolves, kind-is, kind-not}
use Rattle.frames.proofs.Laws.Places.{positive, standing, none-stands}

-- ---- one place

module _ (kind : Kind) (s : List ℕ) (i : ℕ) where
  seek-step : i < length s → seek kind s i ≡ or_else (frame_at kind s i) i (seek kind s (suc i))
  unfolding seek seek_among
  seek-step h = let n : length s - i ≡ suc (length s - suc i) = omega arith in rw n

  pub seek_hit : i < length s → {f : Frame} → Some f ≡ frame_at kind s i → Ok (found_at i f) ≡ seek kind s i
  seek_hit h e = rw (seek-step h, ← e)

  pub seek-miss : i < length s → None ≡ frame_at kind s i → seek kind s (i + 1) ≡ seek kind s i
  seek-miss h z = rw (seek-step h, ← z, add-one)

  pub seek-end : length s ≤ i → Err NoFrame ≡ seek kind s i
  unfolding seek seek_among
  seek-end h = let n : length s - i ≡ 0 = omega arith in rw n

-- ---- the right answer

module _ (kind : Kind) (s : List ℕ) (place : ℕ) (lp : place ≤ length s) where
  abbrev k : ℕ
  k = number_of kind

  abbrev NoneBefore : ℕ → Type 0
  NoneBefore i = (j m : ℕ) → place ≤ j → j < i → FrameAt k s j m → ⊥

  step : (i : ℕ) (o : Option Frame) (r : Result Found Refusal) → o ≡ frame_at kind s i → place ≤ i → i ≤ length s → NoneBefore i
      → (NoneBefore (suc i) → Searches k s place r) → Searches k s place (or_else o i r)
  step i None r e p l none rest =
      rest
      λ j m pj lt q.
      ⊎_elim (λ (h : j ≡ i). none-stands kind s i e (subst (λ (x : ℕ). FrameAt k s x m) h q)) (λ h. none j m pj h q)
      (eq-or-lt_of_le (le_of_suc-le-suc lt))
  step i (Some f) r e p l none rest =
      let q = standing kind s i l e in
      answers {v = found_at i f} (search-0 (kind-known kind) lp p q.stands)
      (record {
        behind = p;
        stands = q.stands;
        from_is = ap (λ (x : ℕ). i + x) q.from_is;
        to_is = ap (λ (x : ℕ). i + x) q.to_is;
        none_before = none;
      })

  from_place : (n i : ℕ) → length s - i ≡ n → place ≤ i → i ≤ length s → NoneBefore i → Searches k s place (seek_among kind s n i)
  unfolding seek_among
  from_place zero i e p l none =
      refuses {no = 1} (omega arith)
      (search-1 (kind-known kind) lp λ j m pj q. none j m pj (omega (arith, positive q, q.inside)) q)
  from_place (suc n) i e p l none =
      let h : i < length s = omega arith in
      step i (frame_at kind s i) (seek_among kind s n (suc i)) refl p l none (λ more. from_place n (suc i) (omega arith) (omega arith) h more)

  pub seek-right : Searches k s place (seek kind s place)
  unfolding seek
  seek-right = from_place (length s - place) place refl (omega arith) lp (λ j m pj lt q. omega arith)

-- the answers of the code's tests
module _ (s : List ℕ) (place : ℕ) {k : ℕ} where
  pub found-by : (kind : Kind) → number_of kind ≡ k → place ≤ length s → Searches k s place (seek kind s place)
  found-by kind e lp = subst (λ (j : ℕ). Searches j s place (seek kind s place)) e (seek-right kind s place lp)

  pub no_kind : known k ≡ false → Searches k s place (Err NoKind)
  no_kind e = refuses {no = 2} (omega arith) (search-2 e)

  pub no_place : known k ≡ true → length s < place → Searches k s place (Err NoPlace)
  no_place e h = refuses {no = 3} (omega arith) (search-3 e h)

-- WHAT IS COMPUTED IS THE RIGHT ANSWER
pub search-right : (k : ℕ) (s : List ℕ) (place : ℕ) → Searches k s place (searched k s place)
unfolding searched
search-right k s place = of (resolved k) (resolves k)
  where
    at : (kind : Kind) → number_of kind ≡ k → (t : Bool) → leb place (length s) ≡ t → Searches k s place (cond t (seek kind s place) (Err NoPlace))
    at kind e true h = found-by s place kind e (leb-true place (length s) h)
    at kind e false h = no_place s place (known_of kind e) (leb-false place (length s) h)

    of : (r : Option Kind) → Resolves k r → Searches k s place (searched_as r s place)
    of (Some kind) a = at kind (kind-is kind a) (leb place (length s)) refl
    of None a = no_kind s place (kind-not a)
