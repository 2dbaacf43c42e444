-- 01, Search: "the next search begins at that frame's end".
-- Assumes nothing.
use Rattle.std.specs.Prelude.{List, [], ◌∷◌, ℕ, ◌+◌, ◌≤◌, ◌<◌, Ok, Err}
use Rattle.digits.specs.declared.refusal.Refusal.TheVariants.{NoFrame}
use Rattle.frames.specs.Paper.Search.{FrameAt, Hit, Searches}

-- what one search after the other finds from a place on, up to the one that finds no frame
pub data Run (k : ℕ) (s : List ℕ) : ℕ → List Hit → Type 0 where
  ends : {place : ℕ} → Searches k s place (Err NoFrame) → Run k s place []
  finds : {place : ℕ} {v : Hit} {later : List Hit} → Searches k s place (Ok v) → Run k s (v.start + v.len) later
      → Run k s place (v ∷ later)

-- the frames stand one behind the other, none before the place and no two in one byte
pub data InOrder (k : ℕ) (s : List ℕ) : ℕ → List Hit → Type 0 where
  nothing : {place : ℕ} → InOrder k s place []
  next : {place : ℕ} {v : Hit} {later : List Hit} → place ≤ v.start → FrameAt k s v.start v.len
      → InOrder k s (v.start + v.len) later
      → InOrder k s place (v ∷ later)

-- the place j is one of those that the frames take up
pub data TakenUp (j : ℕ) : List Hit → Type 0 where
  here : {v : Hit} {later : List Hit} → v.start ≤ j → j < v.start + v.len → TakenUp j (v ∷ later)
  there : {v : Hit} {later : List Hit} → TakenUp j later → TakenUp j (v ∷ later)
