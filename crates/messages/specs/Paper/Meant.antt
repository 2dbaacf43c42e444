-- The promise of `of`: the message of a content, from the content's parts.
-- Assumes nothing.
use Rattle.std.specs.Prelude.{List, ◌≡◌, ℕ, Result, Ok, Err}
use Rattle.std.proofs.Math.Option.{Option, none, some}
use Rattle.digits.specs.Paper.Hex.{hex_bytes}
use Rattle.digits.specs.Paper.Refusals.{refusal_number, Answers}
use Rattle.digits.specs.declared.refusal.Refusal.{Refusal}
use Rattle.layouts.specs.Paper.Made.{Wire, Payload}
use Rattle.messages.specs.Paper.Content.{Content, payload_in}
use Rattle.messages.specs.Paper.Content as content
use Rattle.messages.specs.Paper.Message.{Message}
use Rattle.messages.specs.Paper.Says.{Says}
use Rattle.messages.specs.Paper.Table.{content_of, Good}
use Rattle.messages.specs.declared.Tag.{Tag}
use Rattle.messages.specs.declared.Tag.TheVariants.{Link, Press, Tail, Command, Response, Nibe, Homiq}
use Rattle.messages.specs.declared.Message.{Message as Coded}

-- ---- the content that parts are

-- a link with these digits
pub record LinkWith (d : List ℕ) (c : Content) : Type 0 where
  pub payload : List ℕ
  pub is : c ≡ content.link payload
  pub digits : d ≡ hex_bytes payload

-- a press with these digits
abbrev pub PressWith : List ℕ → Content → Type 0
PressWith d c = c ≡ content.press d

-- a command or a response with this id and payload
abbrev pub CommandWith : ℕ → List ℕ → Content → Type 0
CommandWith i p c = c ≡ content.command i p

abbrev pub ResponseWith : ℕ → List ℕ → Content → Type 0
ResponseWith i p c = c ≡ content.response i p

-- Nibe's command with these data
abbrev pub NibeWith : ℕ → List ℕ → Content → Type 0
NibeWith command d c = c ≡ content.nibe command d

-- the six Homiq fields with this payload
pub record HomiqWith (p : List ℕ) (c : Content) : Type 0 where
  pub wire : Wire
  pub is : c ≡ content.homiq wire
  pub payload : Payload p wire

-- the content with this tag and payload; a tail takes nothing from the payload
abbrev pub ContentWith : Tag → List ℕ → Content → Type 0
ContentWith Link p = LinkWith p
ContentWith Press p = PressWith p
ContentWith Tail p = λ c. c ≡ content.tail
ContentWith (Command i) p = CommandWith i p
ContentWith (Response i) p = ResponseWith i p
ContentWith (Nibe command) p = NibeWith command p
ContentWith Homiq p = HomiqWith p

-- ---- its message

-- 5: "a field .. outside its limits": no message of the table has that content
pub data MeantCause (With : Content → Type 0) : ℕ → Type 0 where
  no-message : ((m : Message) → Good m → With (content_of m) → ⊥) → MeantCause With 5

-- e is the message of the table with that content
pub record MessageWith (With : Content → Type 0) (e : Coded) : Type 0 where
  pub message : Message
  pub good : Good message
  pub content : With (content_of message)
  pub says : Says e (payload_in (content_of message)) message

-- the refusal number and the value of an answer: its message; of a refusal none
abbrev pub none_meant : Option Coded
none_meant = none

abbrev pub meant_refusal : Result Coded Refusal → ℕ
meant_refusal (Ok e) = 0
meant_refusal (Err why) = refusal_number why

abbrev pub meant_value : Result Coded Refusal → Option Coded
meant_value (Ok e) = some e
meant_value (Err why) = none_meant

-- v is that message
pub record MeantAs (With : Content → Type 0) (v : Option Coded) : Type 0 where
  pub coded : Coded
  pub is : v ≡ some coded
  pub right : MessageWith With coded

-- r is the right answer
abbrev pub Means : (Content → Type 0) → Result Coded Refusal → Type 0
Means With r = Answers none_meant (MeantCause With) (MeantAs With) (meant_refusal r) (meant_value r)
