-- The public functions of `messages`.
-- Assumes nothing.
use Rattle.std.specs.Prelude.{List, [], ◌∷◌, ◌≡◌, ℕ, Result}
use Rattle.std.specs.Borrow.{Bor}
use Rattle.digits.specs.declared.refusal.Refusal.{Refusal}
use Rattle.frames.specs.Paper.Search.{SearchCause}
use Rattle.messages.specs.Paper.Allowed.{InTheTable, StandingCause, standing_refusal, standing_value}
use Rattle.messages.specs.Paper.Answers.{DecodeCause, DecodedTo, Stands, content_ends, decoded_refusal, decoded_value}
use Rattle.messages.specs.Paper.Answers.{zero_decoded, FoundAs, found_message_refusal, found_message_value}
use Rattle.messages.specs.Paper.Answers.{zero_found_message}
use Rattle.messages.specs.Paper.Homiq.{field_ends}
use Rattle.messages.specs.Paper.Message as paper
use Rattle.messages.specs.Paper.Meant.{ContentWith, MeantAs, MeantCause, meant_refusal, meant_value, none_meant}
use Rattle.messages.specs.Paper.NextId.{next_id, NextIdCause, next_id_refusal, next_id_value}
use Rattle.messages.specs.Paper.Panel.{PairCause, PairOf, VoltsCause, pair_refusal, pair_value, volts_in, volts_refusal}
use Rattle.messages.specs.Paper.Panel.{volts_value, zero_counts, zero_volts}
use Rattle.messages.specs.Paper.Says.{Says}
use Rattle.messages.specs.declared.Decoded.{Decoded}
use Rattle.messages.specs.declared.Message.{Message}
use Rattle.messages.specs.declared.FoundMessage.{FoundMessage}
use Rattle.messages.specs.declared.Tag.{Tag}
use Rattle.messages.specs.declared.nest.Response.{Response}
use Rattle.messages.specs.declared.nest.Volts.{Volts}
use Rattle.numbers.specs.declared.panel.Climate.{Climate}
use Rattle.claims.specs.Paper.Claim.{Claim, refuses, hands, NeverRefused}

-- The message of one frame.
pub record DecodeArgs : Type 0 where
  pub kind : ℕ
  pub frame : List ℕ

abbrev pub decode : Claim (Result Decoded Refusal)
decode =
    record {
      name = "messages::decode";
      Args = DecodeArgs;
      refusals = 2 ∷ 5 ∷ [];
      Cause = λ a. DecodeCause a.kind a.frame;
      form = refuses
          (record {
            refusal = decoded_refusal;
            value = decoded_value;
            zeros = zero_decoded;
            Right = λ a. DecodedTo a.kind a.frame;
          });
    }

-- The frame with the smallest start at or after the place, and its message.
pub record FindArgs : Type 0 where
  pub kind : ℕ
  pub buffer : List ℕ
  pub place : ℕ

abbrev pub find : Claim (Result FoundMessage Refusal)
find =
    record {
      name = "messages::find";
      Args = FindArgs;
      refusals = 2 ∷ 3 ∷ 1 ∷ [];
      Cause = λ a. SearchCause a.kind a.buffer a.place;
      form = refuses
          (record {
            refusal = found_message_refusal;
            value = found_message_value;
            zeros = zero_found_message;
            Right = λ a. FoundAs a.kind a.buffer a.place;
          });
    }

-- What stands beside the message of one frame, as a part of it; empty for a refusal.
pub record ContentArgs : Type 0 where
  pub kind : ℕ
  pub frame : Bor (List ℕ)

abbrev pub content : Claim (Bor (List ℕ))
content =
    record {
      name = "messages::content";
      Args = ContentArgs;
      refusals = 2 ∷ 5 ∷ [];
      Cause = λ a. DecodeCause a.kind a.frame.now;
      form = hands (λ a. a.frame)
          (λ a e. (m : paper.Message) × (Stands a.kind a.frame.now m) × (e ≡ content_ends m));
    }

-- The message of a content.
pub record OfArgs : Type 0 where
  pub tag : Tag
  pub payload : List ℕ

abbrev pub of : Claim (Result Message Refusal)
of =
    record {
      name = "messages::of";
      Args = OfArgs;
      refusals = 5 ∷ [];
      Cause = λ a. MeantCause (ContentWith a.tag a.payload);
      form = refuses
          (record {
            refusal = meant_refusal;
            value = meant_value;
            zeros = none_meant;
            Right = λ a. MeantAs (ContentWith a.tag a.payload);
          });
    }

-- Whether a message, with what stands beside it, is one of the table.
pub record AllowedArgs : Type 0 where
  pub message : Message
  pub content : List ℕ

abbrev pub allowed : Claim (Result (Unit {0}) Refusal)
allowed =
    record {
      name = "messages::allowed";
      Args = AllowedArgs;
      refusals = 5 ∷ 6 ∷ [];
      Cause = λ a. StandingCause (Says a.message a.content);
      form = refuses
          (record {
            refusal = standing_refusal;
            value = standing_value;
            zeros = tt {0};
            Right = λ a. InTheTable (Says a.message a.content);
          });
    }

-- A field of CMD to TYPE, by its number from 0, as a part of them; if there is none, the empty part at their end.
pub record HomiqFieldArgs : Type 0 where
  pub content : Bor (List ℕ)
  pub number : ℕ

abbrev pub homiq-field : Claim (Bor (List ℕ))
homiq-field =
    record {
      name = "messages::homiq::field";
      Args = HomiqFieldArgs;
      refusals = [];
      Cause = λ a. NeverRefused;
      form = hands (λ a. a.content) (λ a e. e ≡ field_ends a.number a.content.now);
    }

-- The ID of the frame after one with this ID.
pub record HomiqNextIdArgs : Type 0 where
  pub id : ℕ

abbrev pub homiq-next-id : Claim (Result ℕ Refusal)
homiq-next-id =
    record {
      name = "messages::homiq::next_id";
      Args = HomiqNextIdArgs;
      refusals = 5 ∷ [];
      Cause = λ a. NextIdCause a.id;
      form = refuses
          (record {
            refusal = next_id_refusal;
            value = next_id_value;
            zeros = 0;
            Right = λ a n. n ≡ next_id a.id;
          });
    }

-- A climate message's counts for the panel.
pub record NestForPanelArgs : Type 0 where
  pub message : Response

abbrev pub nest-for-panel : Claim (Result Climate Refusal)
nest-for-panel =
    record {
      name = "messages::nest::for_panel";
      Args = NestForPanelArgs;
      refusals = 5 ∷ [];
      Cause = λ a. PairCause a.message;
      form = refuses
          (record {
            refusal = pair_refusal;
            value = pair_value;
            zeros = zero_counts;
            Right = λ a. PairOf a.message;
          });
    }

-- The voltages in a state's payload.
pub record NestVoltagesArgs : Type 0 where
  pub payload : List ℕ

abbrev pub nest-voltages : Claim (Result Volts Refusal)
nest-voltages =
    record {
      name = "messages::nest::voltages";
      Args = NestVoltagesArgs;
      refusals = 5 ∷ [];
      Cause = λ a. VoltsCause a.payload;
      form = refuses
          (record {
            refusal = volts_refusal;
            value = volts_value;
            zeros = zero_volts;
            Right = λ a v. v ≡ volts_in a.payload;
          });
    }
