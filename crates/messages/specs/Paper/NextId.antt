-- 02, K3, "Homiq counts from zero": the ID of the frame after one.
-- Assumes nothing.
use Rattle.std.specs.Prelude.{◌≡◌, ℕ, ◌+◌, ◌%◌, ◌<◌, Result, Ok, Err}
use Rattle.digits.specs.Paper.Refusals.{refusal_number, Answers}
use Rattle.digits.specs.declared.refusal.Refusal.{Refusal}
use Rattle.layouts.specs.Paper.Homiq.{last_id}

-- "Document 004 says modulo 512, and units follow 511 with 0"
abbrev pub next_id : ℕ → ℕ
next_id i = (i + 1) % (last_id + 1)

-- 01, "Refusal numbers": 5 "a field .. outside its limits"
pub data NextIdCause (i : ℕ) : ℕ → Type 0 where
  no-id : last_id < i → NextIdCause i 5

abbrev pub next_id_refusal : Result ℕ Refusal → ℕ
next_id_refusal (Ok n) = 0
next_id_refusal (Err why) = refusal_number why

abbrev pub next_id_value : Result ℕ Refusal → ℕ
next_id_value (Ok n) = n
next_id_value (Err why) = 0

-- r is the right answer
abbrev pub Follows : ℕ → Result ℕ Refusal → Type 0
Follows i r = Answers 0 (NextIdCause i) (λ n. n ≡ next_id i) (next_id_refusal r) (next_id_value r)
