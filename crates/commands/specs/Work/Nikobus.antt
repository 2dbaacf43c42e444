-- The bytes that digits are, for the function that reads them.
-- Assumes nothing.
use Rattle.std.specs.Prelude.{List, ◌≡◌, ℕ, length, take, Option, Some, None}
use Rattle.digits.specs.Paper.Hex.{hex_bytes}
use Rattle.messages.specs.Paper.Table.{BytesBetween}

-- so many bytes at the front of the room are those that the digits d are, at most `most`; there is no count if there
-- are no such bytes
pub data Unhexed (d : List ℕ) (most : ℕ) : Option ℕ → List ℕ → Type 0 where
  are : {n : ℕ} {p room : List ℕ} → BytesBetween 0 most p → d ≡ hex_bytes p → n ≡ length p → take n room ≡ p
      → Unhexed d most (Some n) room
  none : {room : List ℕ} → ((p : List ℕ) → BytesBetween 0 most p → d ≡ hex_bytes p → ⊥) → Unhexed d most None room
