-- 01: "Link, text, response, nibe and homiq may not be encoded with a content that a message above them in the table
-- has". The promise of `allowed`: whether a message, with what stands beside it, is one of the table.
-- Assumes nothing.
use Rattle.std.specs.Prelude.{List, ℕ, Result, Ok, Err}
use Rattle.digits.specs.Paper.Refusals.{refusal_number, Answers}
use Rattle.digits.specs.declared.refusal.Refusal.{Refusal}
use Rattle.messages.specs.Paper.Message.{Message}
use Rattle.messages.specs.Paper.Says.{Says}
use Rattle.messages.specs.Paper.Table.{Limits, Above, Good}
use Rattle.messages.specs.declared.Message.{Message as Coded}

-- why the message that is meant is not one of the table. 5: "a field .. outside its limits", "not held by its width";
-- 6: "a message with the content of one above it in the table"
pub data StandingCause (Means : Message → Type 0) : ℕ → Type 0 where
  outside : ((m : Message) → Means m → Limits m → ⊥) → StandingCause Means 5
  taken : {m : Message} → Means m → Above m → StandingCause Means 6

-- the refusal number of an answer
abbrev pub standing_refusal : Result (Unit {0}) Refusal → ℕ
standing_refusal (Ok u) = 0
standing_refusal (Err why) = refusal_number why

-- it has no other value
abbrev pub standing_value : Result (Unit {0}) Refusal → Unit {0}
standing_value r = tt

-- the message that is meant is one of the table
abbrev pub InTheTable : (Message → Type 0) → Unit {0} → Type 0
InTheTable Means v = (m : Message) × (Means m) × Good m

-- r is the right answer to whether the message that is meant is one of the table
abbrev pub StandsSo : (Message → Type 0) → Result (Unit {0}) Refusal → Type 0
StandsSo Means r = Answers (tt {0}) (StandingCause Means) (InTheTable Means) (standing_refusal r) (standing_value r)

abbrev pub Allows : Coded → List ℕ → Result (Unit {0}) Refusal → Type 0
Allows e s r = StandsSo (Says e s) r
