-- 01, Search: "handed back as that part of the caller's buffer": its bytes, and where in memory they stand.
-- Assumes nothing.
use Rattle.std.specs.Prelude.{List, ◌≡◌, ℕ, ◌+◌}
use Rattle.std.specs.Borrow.{Bor}
use Rattle.digits.specs.Paper.Bytes.{part}
use Rattle.digits.specs.Paper.Refusals.{Answers}

-- where a part of lent bytes begins and ends
pub record Ends : Type 0 where
  pub from : ℕ
  pub to : ℕ

abbrev pub zero_ends : Ends
zero_ends = record { from = 0; to = 0 }

-- r is that part of the bytes s: the same bytes, at the same place of memory. `ptr` is a block and a place in it
pub record IsPart (s : Bor (List ℕ)) (e : Ends) (r : Bor (List ℕ)) : Type 0 where
  pub bytes : r.now ≡ part e.from e.to s.now
  pub place : r.ref_ptr ≡ (s.ref_ptr.0, e.from + s.ref_ptr.1)

-- r is the right part of s; "a refused part" is empty, and (ours) stands at the beginning of s
pub record HandsPart (Cause : ℕ → Type 0) (Right : Ends → Type 0) (s r : Bor (List ℕ)) : Type 0 where
  pub refusal : ℕ
  pub ends : Ends
  pub answer : Answers zero_ends Cause Right refusal ends
  pub is : IsPart s ends r
