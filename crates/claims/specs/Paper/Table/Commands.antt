-- The public functions of `commands`.
-- Assumes nothing.
use Rattle.std.specs.Prelude.{List, [], ◌∷◌, ℕ, length}
use Rattle.puts.specs.Paper.Wrote.{Written}
use Rattle.messages.specs.Paper.Says.{Says}
use Rattle.messages.specs.declared.Message.{Message}
use Rattle.commands.specs.Paper.Acknowledge.{AcknowledgeCause, AcknowledgementOf}
use Rattle.commands.specs.Paper.Answers.{EncodeCause, MeantBytes}
use Rattle.claims.specs.Paper.Claim.{fronts, Claim}

-- Writes the frame of a message from the front of the room.
pub record EncodeArgs : Type 0 where
  pub kind : ℕ
  pub message : Message
  pub content : List ℕ
  pub room : List ℕ

abbrev pub encode : Claim Written
encode =
    record {
      name = "commands::encode";
      Args = EncodeArgs;
      refusals = 2 ∷ 7 ∷ 5 ∷ 6 ∷ 4 ∷ [];
      Cause = λ a. EncodeCause a.kind a.message a.content (length a.room);
      form = fronts (λ a. a.room) (λ a. MeantBytes (Says a.message a.content));
    }

-- Writes the acknowledgement of a Homiq frame of type `s` from the front of the room: SRC and DST exchanged, `a`, and
-- the CRC of that.
pub record AcknowledgeArgs : Type 0 where
  pub frame : List ℕ
  pub room : List ℕ

abbrev pub acknowledge : Claim Written
acknowledge =
    record {
      name = "commands::acknowledge";
      Args = AcknowledgeArgs;
      refusals = 5 ∷ 4 ∷ [];
      Cause = λ a. AcknowledgeCause a.frame (length a.room);
      form = fronts (λ a. a.room) (λ a. AcknowledgementOf a.frame);
    }
