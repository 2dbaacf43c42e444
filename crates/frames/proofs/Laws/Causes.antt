-- The first cause that applies: the numbers that a call has no cause for are passed over.
-- Assumes nothing.
use mathlib.Core.Bool.{Bool, true, false, ◌||◌, true≢false}
use mathlib.Core.List.{List}
use mathlib.Core.Path.{◌≡◌, refl, sym, ◌∙◌}
use Prim.Native.Nat.{ℕ, ◌≤◌, ◌<◌}
use native.Mathlib.Omega.{arith}
use lib.Dec.{eqb}
use lib.ListN.{length}
use Rattle.digits.proofs.Laws.Refusals.{pass-over}
use Rattle.digits.specs.Paper.Refusals.{refusal_order, First, clear, here, after}
use Rattle.frames.specs.Paper.Kinds.{known, Frame}
use Rattle.frames.specs.Paper.Search.{FrameAt, SearchCause}
use Rattle.frames.specs.Paper.OneFrame.{OneFrameCause}
use Rattle.frames.specs.Paper.Why.{WhyCause}
use Rattle.frames.specs.Paper.Search as S
use Rattle.frames.specs.Paper.OneFrame as W
use Rattle.frames.specs.Paper.Why as Y

abbrev ours : ℕ → Bool
ours k = eqb k 2 || eqb k 3 || eqb k 5 || eqb k 1

module _ {C : ℕ → Type 0} (only : (k : ℕ) → ours k ≡ false → C k → ⊥) where
  first-2 : C 2 → First C refusal_order 2
  first-2 c = pass-over ours only refusal_order (here c)

  first-3 : (C 2 → ⊥) → C 3 → First C refusal_order 3
  first-3 n2 c = pass-over ours only refusal_order (after n2 (here c))

  first-5 : (C 2 → ⊥) → (C 3 → ⊥) → C 5 → First C refusal_order 5
  first-5 n2 n3 c = pass-over ours only refusal_order (after n2 (after n3 (here c)))

  first-1 : (C 2 → ⊥) → (C 3 → ⊥) → (C 5 → ⊥) → C 1 → First C refusal_order 1
  first-1 n2 n3 n5 c = pass-over ours only refusal_order (after n2 (after n3 (after n5 (here c))))

  no-cause : (C 2 → ⊥) → (C 3 → ⊥) → (C 5 → ⊥) → (C 1 → ⊥) → First C refusal_order 0
  no-cause n2 n3 n5 n1 = pass-over ours only refusal_order (after n2 (after n3 (after n5 (after n1 clear))))

both : {b : Bool} → b ≡ true → b ≡ false → ⊥
both t f = true≢false (sym t ∙ f)

-- ---- a search

module _ {k : ℕ} {s : List ℕ} {place : ℕ} where
  only : (j : ℕ) → ours j ≡ false → SearchCause k s place j → ⊥
  only j e (S.no-frame f) = true≢false e
  only j e (S.no_kind f) = true≢false e
  only j e (S.no_place h) = true≢false e

  kind-known : known k ≡ true → SearchCause k s place 2 → ⊥
  kind-known e (S.no_kind f) = both e f

  place-there : place ≤ length s → SearchCause k s place 3 → ⊥
  place-there h (S.no_place l) = omega arith

  no-five : SearchCause k s place 5 → ⊥
  no-five c = five 5 c (omega arith)
    where
      five : (j : ℕ) → SearchCause k s place j → 3 < j → ⊥
      five j (S.no-frame f) h = omega arith
      five j (S.no_kind f) h = omega arith
      five j (S.no_place l) h = omega arith

  pub search-2 : known k ≡ false → First (SearchCause k s place) refusal_order 2
  search-2 e = first-2 only (S.no_kind e)

  pub search-3 : known k ≡ true → length s < place → First (SearchCause k s place) refusal_order 3
  search-3 e h = first-3 only (kind-known e) (S.no_place h)

  pub search-1 : known k ≡ true → place ≤ length s → ((j m : ℕ) → place ≤ j → FrameAt k s j m → ⊥) → First (SearchCause k s place) refusal_order 1
  search-1 e h f = first-1 only (kind-known e) (place-there h) no-five (S.no-frame f)

  pub search-0 : known k ≡ true → place ≤ length s → {i n : ℕ} → place ≤ i → FrameAt k s i n → First (SearchCause k s place) refusal_order 0
  search-0 e h {i} {n} l q = no-cause only (kind-known e) (place-there h) no-five (one i n l q)
    where
      one : (i n : ℕ) → place ≤ i → FrameAt k s i n → SearchCause k s place 1 → ⊥
      one i n l q (S.no-frame f) = f i n l q

-- ---- one frame

module _ {k : ℕ} {s : List ℕ} where
  whole-only : (j : ℕ) → ours j ≡ false → OneFrameCause k s j → ⊥
  whole-only j e (W.no_kind f) = true≢false e
  whole-only j e (W.no-frame f) = true≢false e

  whole-known : known k ≡ true → OneFrameCause k s 2 → ⊥
  whole-known e (W.no_kind f) = both e f

  whole-frame : Frame k s → OneFrameCause k s 5 → ⊥
  whole-frame r (W.no-frame f) = f r

  no_other : (j : ℕ) → OneFrameCause k s j → (j ≡ 2 → ⊥) → (j ≡ 5 → ⊥) → ⊥
  no_other j (W.no_kind f) a b = a refl
  no_other j (W.no-frame f) a b = b refl

  pub whole-2 : known k ≡ false → First (OneFrameCause k s) refusal_order 2
  whole-2 e = first-2 whole-only (W.no_kind e)

  pub whole-5 : known k ≡ true → (Frame k s → ⊥) → First (OneFrameCause k s) refusal_order 5
  whole-5 e f = first-5 whole-only (whole-known e) (λ c. no_other 3 c (λ z. omega arith) (λ z. omega arith)) (W.no-frame f)

  pub whole-0 : known k ≡ true → Frame k s → First (OneFrameCause k s) refusal_order 0
  whole-0 e r = no-cause whole-only (whole-known e) (λ c. no_other 3 c (λ z. omega arith) (λ z. omega arith)) (whole-frame r) (λ c. no_other 1 c (λ z. omega arith) (λ z. omega arith))

-- ---- why

module _ {k : ℕ} {s : List ℕ} {place : ℕ} where
  why-only : (j : ℕ) → ours j ≡ false → WhyCause k s place j → ⊥
  why-only j e (Y.no_kind f) = true≢false e
  why-only j e (Y.no_place h) = true≢false e

  why-known : known k ≡ true → WhyCause k s place 2 → ⊥
  why-known e (Y.no_kind f) = both e f

  why-there : place ≤ length s → WhyCause k s place 3 → ⊥
  why-there h (Y.no_place l) = omega arith

  why-other : (j : ℕ) → WhyCause k s place j → (j ≡ 2 → ⊥) → (j ≡ 3 → ⊥) → ⊥
  why-other j (Y.no_kind f) a b = a refl
  why-other j (Y.no_place h) a b = b refl

  pub why-2 : known k ≡ false → First (WhyCause k s place) refusal_order 2
  why-2 e = first-2 why-only (Y.no_kind e)

  pub why-3 : known k ≡ true → length s < place → First (WhyCause k s place) refusal_order 3
  why-3 e h = first-3 why-only (why-known e) (Y.no_place h)

  pub why-0 : known k ≡ true → place ≤ length s → First (WhyCause k s place) refusal_order 0
  why-0 e h =
      no-cause why-only (why-known e) (why-there h) (λ c. why-other 5 c (λ z. omega arith) (λ z. omega arith))
      (λ c. why-other 1 c (λ z. omega arith) (λ z. omega arith))
