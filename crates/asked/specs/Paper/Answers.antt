-- 02, K4: the promises of `read` and `encode`. "11 not in the grammar or over a limit; 12 members missing, extra, of
-- another sort or spelling, with a character above U+00FF, or disagreeing, kind with msg too; in that order, both
-- before 5, which a value outside its limits gets."
-- Assumes nothing.
use Rattle.std.specs.Prelude.{List, [], ◌++◌, ◌≡◌, ℕ, ◌<◌, Result, Ok, Err, length, drop}
use Rattle.std.proofs.Math.Option.{Option, none, some}
use Rattle.digits.specs.Paper.Hex.{hex_bytes}
use Rattle.digits.specs.Paper.Refusals.{refusal_number}
use Rattle.digits.specs.declared.refusal.Refusal.{Refusal}
use Rattle.puts.specs.Paper.Right.{WritesRight, AnswersInto}
use Rattle.puts.specs.Paper.Wrote.{Written}
use Rattle.layouts.specs.Paper.Homiq as homiqs
use Rattle.layouts.specs.Paper.Made.{Wire, homiq_of}
use Rattle.messages.specs.Paper.Allowed.{StandingCause}
use Rattle.messages.specs.Paper.Message.{Message, read, set, answer, press, tail, link, command, climate, state}
use Rattle.messages.specs.Paper.Message.{break, end, text, response, ask, reply, put, done, nibe, output, input}
use Rattle.messages.specs.Paper.Message.{shutter, beat, homiq, row}
use Rattle.messages.specs.Paper.Says.{Says}
use Rattle.messages.specs.Paper.Table.{Good}
use Rattle.messages.specs.declared.Message.{Message as Coded}
use Rattle.commands.specs.Paper.Answers.{MessageCause, MeantBytes}
use Rattle.jsontext.specs.Paper.Names.{InGrammar}
use Rattle.shapes.specs.Paper.Fields.{Field}
use Rattle.shapes.specs.Paper.Shapes.{shape_at}
use Rattle.asked.specs.Paper.Means.{Fills, Means}
use Rattle.asked.specs.declared.Asked.{Asked}

-- why a text is not a command: 11, 12; and why its message is not taken
pub data AskedCause (s : List ℕ) (MessageCauses : ℕ → Type 0) : ℕ → Type 0 where
  not-json : (InGrammar s → ⊥) → AskedCause s MessageCauses 11
  no-message : ((r : ℕ) (fs : List Field) → Fills s r fs → ⊥) → AskedCause s MessageCauses 12
  by-message : {no : ℕ} → MessageCauses no → AskedCause s MessageCauses no

-- ---- encode

-- r is the right answer, and `later` the right room afterwards: the frame of the message that the text s means
abbrev pub EncodesAsked : List ℕ → List ℕ → Written → List ℕ → Type 0
EncodesAsked s room r later =
    WritesRight (AskedCause s (MessageCause (Means s) (length room))) (MeantBytes (Means s)) room r later

-- ---- read

-- what stands beside a message: "its bytes of free length". A link's digits, a payload, data, CMD to TYPE
abbrev pub wired_payload : Wire → List ℕ
wired_payload w = homiqs.payload (homiq_of w)

unfoldable pub beside : Message → List ℕ
beside (read g a) = []
beside (set g a out) = []
beside (answer a third out) = []
beside (press d) = []
beside tail = []
beside (link p) = hex_bytes p
beside (command i p) = p
beside (climate t h) = []
beside (state p) = p
beside break = []
beside end = []
beside (text i p) = p
beside (response i p) = p
beside (ask r) = []
beside (reply r w v) = []
beside (put r w v) = []
beside (done ok) = []
beside (nibe c d) = d
beside (output w) = wired_payload w
beside (input w) = wired_payload w
beside (shutter w) = wired_payload w
beside (beat w) = wired_payload w
beside (homiq w) = wired_payload w

-- 5 and 6 as when encoding; 4: the room is too short for what stands beside the message
pub data ReadCause (s : List ℕ) (n : ℕ) : ℕ → Type 0 where
  standing : {no : ℕ} → StandingCause (Means s) no → ReadCause s n no
  short : (m : Message) → Means s m → n < length (beside m) → ReadCause s n 4

-- the refusal number and the values of an answer: the kind, the message, and how long what stands beside it is
pub record AskedValue : Type 0 where
  pub kind : ℕ
  pub message : Option Coded
  pub len : ℕ

abbrev pub zero_asked : AskedValue
zero_asked = record { kind = 0; message = none; len = 0 }

abbrev pub asked_refusal : Result Asked Refusal → ℕ
asked_refusal (Ok asked) = 0
asked_refusal (Err why) = refusal_number why

abbrev pub asked_value : Result Asked Refusal → AskedValue
asked_value (Ok asked) = record { kind = asked.kind; message = some asked.message; len = asked.len }
asked_value (Err why) = zero_asked

-- v has the right values, and `later` is the right room afterwards: a message of the table, which the text means
pub record AskedAs (s room : List ℕ) (v : AskedValue) (later : List ℕ) : Type 0 where
  pub meant : Message
  pub means : Means s meant
  pub good : Good meant
  pub coded : Coded
  pub says : Says coded (beside meant) meant
  pub kind-is : v.kind ≡ (shape_at (row meant)).kind
  pub message-is : v.message ≡ some coded
  pub len_is : v.len ≡ length (beside meant)
  pub room-is : later ≡ beside meant ++ drop (length (beside meant)) room

-- r is the right answer, and `later` the right room afterwards
abbrev pub ReadsAsked : List ℕ → List ℕ → Result Asked Refusal → List ℕ → Type 0
ReadsAsked s room r later =
    AnswersInto zero_asked room (AskedCause s (ReadCause s (length room))) (AskedAs s room) (asked_refusal r)
    (asked_value r) later
