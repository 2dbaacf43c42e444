-- 01, "JSON and the listing program": "the bytes in no frame", counted one by one.
-- Assumes nothing.
use Rattle.std.specs.Prelude.{List, ℕ, suc}
use Rattle.frames.specs.Paper.Runs.{TakenUp}
use Rattle.frames.specs.Paper.Search.{Hit}

-- of the places from `from` up to `to`, `count` are in none of the frames
pub data InNone (hits : List Hit) : (from to count : ℕ) → Type 0 where
  all : {to : ℕ} → InNone hits to to 0
  taken : {from to count : ℕ} → TakenUp from hits → InNone hits (suc from) to count → InNone hits from to count
  skipped : {from to count : ℕ} → (TakenUp from hits → ⊥) → InNone hits (suc from) to count
      → InNone hits from to (suc count)
