-- The public functions of `asked`.
-- Assumes nothing.
use Rattle.std.specs.Prelude.{List, [], ◌∷◌, ℕ, length, Result, Option}
use Rattle.digits.specs.declared.refusal.Refusal.{Refusal}
use Rattle.puts.specs.Paper.Wrote.{Written}
use Rattle.commands.specs.Paper.Answers.{MessageCause, MeantBytes}
use Rattle.asked.specs.Paper.Answers.{AskedCause, ReadCause, AskedAs, asked_refusal, asked_value, zero_asked}
use Rattle.asked.specs.Paper.Lacks.{LackOf}
use Rattle.asked.specs.Paper.Means.{Means}
use Rattle.asked.specs.declared.Asked.{Asked}
use Rattle.asked.specs.declared.lacks.Lack.{Lack}
use Rattle.claims.specs.Paper.Claim.{fronts, writes, answering, Claim}

-- The message that a text means; what stands beside it is written from the front of the room.
pub record AskedArgs : Type 0 where
  pub text : List ℕ
  pub room : List ℕ

abbrev pub read : Claim (Result Asked Refusal)
read =
    record {
      name = "asked::read";
      Args = AskedArgs;
      refusals = 11 ∷ 12 ∷ 5 ∷ 6 ∷ 4 ∷ [];
      Cause = λ a. AskedCause a.text (ReadCause a.text (length a.room));
      form = writes
          (record {
            refusal = asked_refusal;
            value = asked_value;
            zeros = zero_asked;
            room = λ a. a.room;
            Right = λ a. AskedAs a.text a.room;
          });
    }

-- Writes the frame of the message that a text means from the front of the room.
abbrev pub encode : Claim Written
encode =
    record {
      name = "asked::encode";
      Args = AskedArgs;
      refusals = 11 ∷ 12 ∷ 5 ∷ 6 ∷ 4 ∷ [];
      Cause = λ a. AskedCause a.text (MessageCause (Means a.text) (length a.room));
      form = fronts (λ a. a.room) (λ a. MeantBytes (Means a.text));
    }

-- The first thing that a text lacks to be a command.
pub record FirstArgs : Type 0 where
  pub text : List ℕ

abbrev pub first : Claim (Option Lack)
first = answering {Args = FirstArgs} "asked::lacks::first" (λ a r. LackOf a.text r)
