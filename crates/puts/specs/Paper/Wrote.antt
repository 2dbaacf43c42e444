-- 01, "Refusal numbers": "Refusals return zeros and write nothing. An answer writes only its own bytes; the rest of
-- the room keeps its values."
-- Assumes nothing.
use Rattle.std.specs.Prelude.{ℕ, ◌<◌, List, ◌++◌, length, drop, Ok, Err, Result}
use Rattle.digits.specs.Paper.Refusals.{refusal_number, refusal_order, First}
use Rattle.digits.specs.declared.refusal.Refusal.{Refusal}

-- The right outcome of a call that writes bs from the front of a lent room: a refusal number, a count of bytes, and
-- the room afterwards. If no cause applies: 0, the count of bs, and bs with the rest of the room behind it.
-- Otherwise: the number of the first cause that applies, 0, and the room as it was.
pub data Wrote (Cause : ℕ → Type 0) (bs room : List ℕ) : ℕ → ℕ → List ℕ → Type 0 where
  wrote : First Cause refusal_order 0 → Wrote Cause bs room 0 (length bs) (bs ++ drop (length bs) room)
  refused : {no : ℕ} → 0 < no → First Cause refusal_order no → Wrote Cause bs room no 0 room

-- what a writer answers, under the name that the code gives it
abbrev pub Written : Type 0
Written = Result ℕ Refusal

-- the same, as a refusal number and a count
abbrev pub written_refusal : Written → ℕ
written_refusal (Ok n) = 0
written_refusal (Err why) = refusal_number why

abbrev pub written_count : Written → ℕ
written_count (Ok n) = n
written_count (Err why) = 0

-- r is the right answer, and `later` the right room afterwards, of a call that writes bs from the front of a lent room
abbrev pub Writes : (ℕ → Type 0) → List ℕ → List ℕ → Written → List ℕ → Type 0
Writes Cause bs room r later = Wrote Cause bs room (written_refusal r) (written_count r) later

-- 4: "lent room too short for the answer", the one cause of a call that has no other
pub data RoomCause (room bytes : ℕ) : ℕ → Type 0 where
  short : room < bytes → RoomCause room bytes 4
