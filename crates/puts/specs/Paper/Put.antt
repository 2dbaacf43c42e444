-- What a writer does: it puts bytes at a place of a lent room, as far as the room goes, and answers the place behind
-- them. What would stand behind the room's end is left out, and is counted all the same.
-- Assumes nothing.
use Rattle.std.specs.Prelude.{◌≡◌, ℕ, ◌+◌, ◌≤◌, min, List, length}
use Rattle.std.proofs.lemmas.List.Edits.{sets}

-- the largest place that there is: a `usize` holds no larger number
abbrev pub largest_place : ℕ
largest_place = 18446744073709551615

-- bs is put at the place `at` of the room, which is `later` afterwards, and the answer is `next`
pub record Put (room later : List ℕ) (at next : ℕ) (bs : List ℕ) : Type 0 where
  -- a room is a slice, so a `usize` holds its length
  pub slice : length room ≤ largest_place
  -- `sets room at bs` is the room with the bytes bs from the place `at` on, as far as the room goes
  pub room-is : later ≡ sets room at bs
  -- the place behind bs; if no `usize` holds it, the largest place
  pub behind : next ≡ min (at + length bs) largest_place
