-- 02, K1: what the verdicts of `why` come to, over its promise and that of the search.
-- Assumes nothing.
use Rattle.std.specs.Prelude.{None, Some, List, ◌≡◌, ℕ, Ok, Result}
use Rattle.digits.specs.declared.refusal.Refusal.{Refusal}
use Rattle.layouts.specs.Paper.Judged.{Head}
use Rattle.layouts.specs.declared.Test.{Test}
use Rattle.layouts.specs.declared.Test.TheVariants.{First, Second}
use Rattle.layouts.specs.declared.Failure.{Failure}
use Rattle.frames.specs.Paper.Kinds.{layout_of}
use Rattle.frames.specs.Paper.Search.{FrameAt, Searches}
use Rattle.frames.specs.Paper.Why.{Failing, Whys}
use Rattle.frames.specs.declared.Found.{Found}
use Rattle.frames.specs.declared.kinds.Kind.{Kind}

pub record Verdicts : Type 0 where
  -- `why` says none exactly if a frame stands at the place
  pub frame-if-none : {k place : ℕ} {s : List ℕ} → Whys k s place (Ok None) → (n : ℕ) × FrameAt k s place n
  pub none-if-frame : {k place n : ℕ} {s : List ℕ} → FrameAt k s place n → (r : Result Failing Refusal)
      → Whys k s place r → r ≡ Ok None
  -- and exactly then the search from that place answers that place
  pub found-if-frame : {k place n : ℕ} {s : List ℕ} → FrameAt k s place n → (r : Result Found Refusal)
      → Searches k s place r
      → (from : ℕ) × (to : ℕ) × (r ≡ Ok (record { start = place; len = n; from = from; to = to }))
  pub frame-if-found : {k place n from to : ℕ} {s : List ℕ}
      → Searches k s place (Ok (record { start = place; len = n; from = from; to = to })) → FrameAt k s place n
  -- each kind, buffer and place has a verdict, and one only
  pub a-verdict : (k : ℕ) (s : List ℕ) (place : ℕ) → (r : Result Failing Refusal) × Whys k s place r
  pub one-verdict : {k place : ℕ} {s : List ℕ} (r q : Result Failing Refusal) → Whys k s place r
      → Whys k s place q → r ≡ q
  -- what is laid out as a frame has begun and is long enough
  pub laid : (kind : Kind) {s : List ℕ} → Head (layout_of kind) s
      → ((layout_of kind).Begun s) × ((layout_of kind).Long s)
  -- values other than 0 only with a failed check, and then they differ
  pub first-differ : {k place found expected : ℕ} {s : List ℕ}
      → Whys k s place (Ok (Some (record { test = First; found = found; expected = expected }))) → found ≡ expected → ⊥
  pub second-differ : {k place found expected : ℕ} {s : List ℕ}
      → Whys k s place (Ok (Some (record { test = Second; found = found; expected = expected }))) → found ≡ expected → ⊥
  pub else-zeros : {k place found expected : ℕ} {s : List ℕ} {t : Test}
      → Whys k s place (Ok (Some (record { test = t; found = found; expected = expected })))
      → (t ≡ First → ⊥) → (t ≡ Second → ⊥) → (found ≡ 0) × (expected ≡ 0)
