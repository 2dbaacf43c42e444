-- 01, "Refusal numbers": "Refusals return zeros and write nothing. An answer writes only its own bytes; the rest of
-- the room keeps its values." Here for a call whose bytes exist only if no cause applies.
-- Assumes nothing.
use Rattle.std.specs.Prelude.{List, ◌++◌, ℕ, ◌<◌, length, drop}
use Rattle.digits.specs.Paper.Refusals.{refusal_order, First, Answers}
use Rattle.puts.specs.Paper.Wrote.{written_refusal, written_count, Written}

-- As `Wrote`, with bytes of which `Right` holds.
pub data WroteRight (Cause : ℕ → Type 0) (Right : List ℕ → Type 0) (room : List ℕ)
    : ℕ → ℕ → List ℕ → Type 0 where
  wrote : {bs : List ℕ} → First Cause refusal_order 0 → Right bs
      → WroteRight Cause Right room 0 (length bs) (bs ++ drop (length bs) room)
  refused : {no : ℕ} → 0 < no → First Cause refusal_order no → WroteRight Cause Right room no 0 room

-- r is the right answer, and `later` the right room afterwards
abbrev pub WritesRight : (ℕ → Type 0) → (List ℕ → Type 0) → List ℕ → Written → List ℕ → Type 0
WritesRight Cause Right room r later = WroteRight Cause Right room (written_refusal r) (written_count r) later

-- As `Answers`, of a call that is lent a room: the value and the room afterwards are right; or the call is refused, the
-- value is zeros, and the room is as it was.
abbrev pub AnswersInto : {A : Type 0} (zeros : A) (room : List ℕ) (Cause : ℕ → Type 0)
    (Right : A → List ℕ → Type 0) (refusal : ℕ) (value : A) (later : List ℕ)
    → Type 0
AnswersInto {A} zeros room Cause Right refusal value later =
    Answers {A = A × List ℕ} (zeros, room) Cause (λ v. Right v.0 v.1) refusal (value, later)
