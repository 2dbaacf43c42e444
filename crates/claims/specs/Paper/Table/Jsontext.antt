-- The public functions of `jsontext`.
-- Assumes nothing.
use Rattle.std.specs.Prelude.{Bool, List, [], ◌∷◌, ℕ, length, Result, Option}
use Rattle.digits.specs.declared.refusal.Refusal.{Refusal}
use Rattle.digits.specs.Paper.Part.{zero_ends}
use Rattle.digits.specs.Paper.Read.{Decides}
use Rattle.puts.specs.Paper.Wrote.{Written}
use Rattle.jsontext.specs.Paper.Faults.{FaultOf}
use Rattle.jsontext.specs.Paper.Members.{CountCause, CountOf, count_refusal, count_value}
use Rattle.jsontext.specs.Paper.Members.{ValueCause, ValueOf, value_refusal, value_value, CharactersCause, IsString}
use Rattle.jsontext.specs.Paper.Names.{InGrammar}
use Rattle.jsontext.specs.declared.faults.Fault.{Fault}
use Rattle.jsontext.specs.declared.members.Value.{Value}
use Rattle.claims.specs.Paper.Claim.{fronts, Claim, answering, refuses}

-- Whether a text is JSON, within the limits of 02, K4.
pub record AcceptsArgs : Type 0 where
  pub text : List ℕ

abbrev pub accepts : Claim Bool
accepts = answering {Args = AcceptsArgs} "jsontext::accepts" (λ a r. Decides (InGrammar a.text) r)

-- Where a text goes wrong, and what must stand there.
pub record FaultArgs : Type 0 where
  pub text : List ℕ

abbrev pub fault : Claim (Option Fault)
fault = answering {Args = FaultArgs} "jsontext::fault" (λ a r. FaultOf a.text r)

-- How many members the object has that the text is.
pub record CountArgs : Type 0 where
  pub text : List ℕ

abbrev pub count : Claim (Result ℕ Refusal)
count =
    record {
      name = "jsontext::members::count";
      Args = CountArgs;
      refusals = 12 ∷ [];
      Cause = λ a. CountCause a.text;
      form = refuses
          (record {
            refusal = count_refusal;
            value = count_value;
            zeros = 0;
            Right = λ a. CountOf a.text;
          });
    }

-- Where the value of the first member with a name begins and ends.
pub record ValueOfArgs : Type 0 where
  pub text : List ℕ
  pub name : List ℕ

abbrev pub value_of : Claim (Result Value Refusal)
value_of =
    record {
      name = "jsontext::members::value_of";
      Args = ValueOfArgs;
      refusals = 12 ∷ [];
      Cause = λ a. ValueCause a.text a.name;
      form = refuses
          (record {
            refusal = value_refusal;
            value = value_value;
            zeros = zero_ends;
            Right = λ a. ValueOf a.text a.name;
          });
    }

-- Writes the characters of the string that the text is, one byte each, from the front of the room.
pub record CharactersArgs : Type 0 where
  pub text : List ℕ
  pub room : List ℕ

abbrev pub characters : Claim Written
characters =
    record {
      name = "jsontext::members::characters";
      Args = CharactersArgs;
      refusals = 12 ∷ 4 ∷ [];
      Cause = λ a. CharactersCause a.text (length a.room);
      form = fronts (λ a. a.room) (λ a. IsString a.text);
    }
