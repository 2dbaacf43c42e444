-- The public functions of `lines`.
-- Assumes nothing.
use Rattle.std.specs.Prelude.{List, [], ◌∷◌, ℕ, ◌-◌, length, Result}
use Rattle.std.proofs.Math.Option.{none}
use Rattle.digits.specs.declared.refusal.Refusal.{Refusal}
use Rattle.puts.specs.Paper.Wrote.{written_count, written_refusal, Written}
use Rattle.frames.specs.Paper.Search.{SearchCause}
use Rattle.messages.specs.Paper.Meant.{ContentWith, MeantCause}
use Rattle.messages.specs.Paper.Says.{Says}
use Rattle.messages.specs.declared.Message.{Message}
use Rattle.messages.specs.declared.Tag.{Tag}
use Rattle.sheet.specs.Paper.Map.{sheet_in}
use Rattle.lines.specs.Paper.Answers.{LineByText, LineByTextCause}
use Rattle.lines.specs.Paper.Answers.{LineCause, LineOf, NextCause, NextLine, NextSize, PutContent, PutSaid}
use Rattle.lines.specs.Paper.Answers.{SaidCause, ended_place, ended_refusal, listed_placed, listed_refusal}
use Rattle.lines.specs.Paper.Answers.{measured_refusal, measured_size, zero_placed, zero_size}
use Rattle.lines.specs.declared.Listed.{Listed}
use Rattle.lines.specs.declared.Measured.{Measured}
use Rattle.claims.specs.Paper.Claim.{fronts, Claim, refuses, writes}

-- Writes the line of one frame, which stands at a place of a capture, from the front of the room.
pub record WriteArgs : Type 0 where
  pub kind : ℕ
  pub frame : List ℕ
  pub at : ℕ
  pub room : List ℕ

abbrev pub write : Claim Written
write =
    record {
      name = "lines::write";
      Args = WriteArgs;
      refusals = 2 ∷ 5 ∷ 4 ∷ [];
      Cause = λ a. LineCause none a.kind a.frame a.at (length a.room);
      form = fronts (λ a. a.room) (λ a. LineOf none a.kind a.frame a.at);
    }

-- Writes the line of one frame by the sheet that a map is.
pub record WriteMappedArgs : Type 0 where
  pub kind : ℕ
  pub frame : List ℕ
  pub at : ℕ
  pub map : List ℕ
  pub room : List ℕ

abbrev pub write-mapped : Claim Written
write-mapped =
    record {
      name = "lines::write_mapped";
      Args = WriteMappedArgs;
      refusals = 2 ∷ 5 ∷ 4 ∷ [];
      Cause = λ a. LineCause (sheet_in a.map) a.kind a.frame a.at (length a.room);
      form = fronts (λ a. a.room) (λ a. LineOf (sheet_in a.map) a.kind a.frame a.at);
    }

-- Writes the line of one frame by a sheet.
pub record WriteWithArgs : Type 0 where
  pub kind : ℕ
  pub frame : List ℕ
  pub at : ℕ
  pub text : List ℕ
  pub room : List ℕ

abbrev pub write-with : Claim Written
write-with =
    record {
      name = "lines::write_with";
      Args = WriteWithArgs;
      refusals = 2 ∷ 5 ∷ 10 ∷ 4 ∷ [];
      Cause = λ a. LineByTextCause a.kind a.frame a.at a.text (length a.room);
      form = fronts (λ a. a.room) (λ a. LineByText a.kind a.frame a.at a.text);
    }

-- Finds the frame with the smallest start at or after a place of the capture, and puts its line at a place of the
-- room: all of it, or none if too little of the room is left there.
pub record NextArgs : Type 0 where
  pub kind : ℕ
  pub capture : List ℕ
  pub place : ℕ
  pub map : List ℕ
  pub room : List ℕ
  pub to : ℕ

abbrev pub next : Claim (Result Listed Refusal)
next =
    record {
      name = "lines::next";
      Args = NextArgs;
      refusals = 2 ∷ 3 ∷ 4 ∷ 1 ∷ [];
      Cause = λ a. NextCause (sheet_in a.map) a.kind a.capture a.place (length a.room - a.to);
      form = writes
          (record {
            refusal = listed_refusal;
            value = listed_placed;
            zeros = zero_placed;
            room = λ a. a.room;
            Right = λ a. NextLine (sheet_in a.map) a.kind a.capture a.place a.room a.to;
          });
    }

-- How long the line is that `next` puts, with the start and the length of its frame.
pub record MeasureArgs : Type 0 where
  pub kind : ℕ
  pub capture : List ℕ
  pub place : ℕ
  pub map : List ℕ

abbrev pub measure : Claim (Result Measured Refusal)
measure =
    record {
      name = "lines::measure";
      Args = MeasureArgs;
      refusals = 2 ∷ 3 ∷ 1 ∷ [];
      Cause = λ a. SearchCause a.kind a.capture a.place;
      form = refuses
          (record {
            refusal = measured_refusal;
            value = measured_size;
            zeros = zero_size;
            Right = λ a. NextSize (sheet_in a.map) a.kind a.capture a.place;
          });
    }

-- Puts the line of a message, with its content beside it, at a place of the room: all of it, or none if too little of
-- the room is left behind that place.
pub record OfArgs : Type 0 where
  pub message : Message
  pub content : List ℕ
  pub at : ℕ
  pub len : ℕ
  pub room : List ℕ
  pub to : ℕ

abbrev pub of : Claim Written
of =
    record {
      name = "lines::of";
      Args = OfArgs;
      refusals = 5 ∷ 4 ∷ [];
      Cause = λ a. SaidCause none (Says a.message a.content) a.at a.len (length a.room - a.to);
      form = writes
          (record {
            refusal = written_refusal;
            value = written_count;
            zeros = 0;
            room = λ a. a.room;
            Right = λ a. PutSaid none (Says a.message a.content) a.at a.len a.room a.to;
          });
    }

-- Puts the line of a content at a place of the room, as far as the room goes, and answers the place behind it.
pub record PutContentArgs : Type 0 where
  pub tag : Tag
  pub payload : List ℕ
  pub at : ℕ
  pub len : ℕ
  pub map : List ℕ
  pub room : List ℕ
  pub to : ℕ

abbrev pub put-content : Claim (Result ℕ Refusal)
put-content =
    record {
      name = "lines::put_content";
      Args = PutContentArgs;
      refusals = 5 ∷ [];
      Cause = λ a. MeantCause (ContentWith a.tag a.payload);
      form = writes
          (record {
            refusal = ended_refusal;
            value = ended_place;
            zeros = 0;
            room = λ a. a.room;
            Right = λ a. PutContent (sheet_in a.map) a.tag a.payload a.at a.len a.room a.to;
          });
    }
