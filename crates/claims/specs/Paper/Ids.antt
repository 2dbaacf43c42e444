-- 02, K3: what the successors of IDs come to, over the promise of `next_id`.
-- Assumes nothing.
use Rattle.std.specs.Prelude.{◌≡◌, ℕ, ◌≤◌, Ok}
use Rattle.layouts.specs.Paper.Homiq.{last_id}
use Rattle.messages.specs.Paper.NextId.{Follows}

pub record Ids : Type 0 where
  -- the successor of an ID is an ID
  pub next-is-id : {i n : ℕ} → Follows i (Ok n) → n ≤ last_id
  -- and no two IDs have the same successor
  pub next-of-one : {i j n : ℕ} → Follows i (Ok n) → Follows j (Ok n) → i ≡ j
