-- What the readers of a row's members answer: a message as the code has it, with what stands beside it; or why not.
-- Assumes nothing.
use Rattle.std.specs.Prelude.{List, ◌++◌, ◌≡◌, ℕ, ◌≤◌, ◌<◌, Result, Ok, Err, length, take, drop}
use Rattle.digits.specs.Paper.Refusals.{refusal_number}
use Rattle.digits.specs.declared.refusal.Refusal.{Refusal}
use Rattle.digits.specs.declared.refusal.Refusal.TheVariants.{NoRoom, OutOfLimits, BadForm, NotInGrammar, BadMembers}
use Rattle.puts.specs.Paper.Wrote.{written_refusal, Written}
use Rattle.messages.specs.Paper.Allowed.{Allows}
use Rattle.messages.specs.Paper.Message.{Message, row}
use Rattle.messages.specs.Paper.Says.{Says}
use Rattle.messages.specs.Paper.Table.{Limits, Good}
use Rattle.messages.specs.declared.Message.{Message as Coded}
use Rattle.commands.specs.Paper.Answers.{Encodes}
use Rattle.jsontext.specs.Paper.Names.{InGrammar}
use Rattle.asked.specs.Paper.Answers.{beside}
use Rattle.shapes.specs.Paper.Fields.{Field}
use Rattle.asked.specs.Paper.Field.{Spells, HasEach}
use Rattle.asked.specs.Paper.Means.{named, HasRow, Fills, Means}
use Rattle.shapes.specs.Paper.Shapes.{shape_at, fields_of}
use Rattle.asked.specs.declared.Asked.{Asked}
use Rattle.asked.specs.declared.Draft.{Draft}
use Rattle.asked.specs.declared.Drafted.{Drafted}
use Rattle.asked.specs.declared.values.Reason.{Reason}
use Rattle.asked.specs.declared.values.Reason.TheVariants.{Large, NoValue}

-- it has those of m, a message of row r
pub record HasMessage (s : List ℕ) (r : ℕ) (m : Message) : Type 0 where
  pub its-row : row m ≡ r
  pub each : HasEach Spells s (named (shape_at r).members (fields_of m))

-- e says a message with c beside it
pub record Said (e : Coded) (c : List ℕ) : Type 0 where
  pub message : Message
  pub says : Says e c message

-- e, with the first `len` bytes of `content` beside it, says the message whose fields s has, if that is within its
-- limits
pub record SaysFields (s : List ℕ) (r : ℕ) (content : List ℕ) (e : Coded) (len : ℕ) : Type 0 where
  pub within : len ≤ length content
  pub some : Said e (take len content)
  pub to : (m : Message) → HasMessage s r m → Limits m → Says e (take len content) m
  pub from : (m : Message) → Says e (take len content) m → HasMessage s r m
  pub stands : (m : Message) → Says e (take len content) m → beside m ≡ take len content

-- the draft, by the members of row r alone
pub data Drafts (s : List ℕ) (r : ℕ) (content : List ℕ) : Result Draft Reason → Type 0 where
  is : {d : Draft} → HasRow s r → SaysFields s r content d.message d.len → Drafts s r content (Ok d)
  outside : HasRow s r → ((m : Message) → HasMessage s r m → Limits m → ⊥) → Drafts s r content (Err Large)
  none : (HasRow s r → ⊥) → Drafts s r content (Err NoValue)

-- the draft and its row, by the whole text
pub record SaysMeant (s : List ℕ) (content : List ℕ) (e : Coded) (len : ℕ) : Type 0 where
  pub within : len ≤ length content
  pub some : Said e (take len content)
  pub to : (m : Message) → Means s m → Limits m → Says e (take len content) m
  pub from : (m : Message) → Says e (take len content) m → Means s m
  pub stands : (m : Message) → Says e (take len content) m → beside m ≡ take len content

pub record Filled (s : List ℕ) (r : ℕ) : Type 0 where
  pub fields : List Field
  pub fills : Fills s r fields

pub data DraftsText (s : List ℕ) (content : List ℕ) : Result Drafted Refusal → Type 0 where
  is : {d : Drafted} → InGrammar s → Filled s d.row → SaysMeant s content d.draft.message d.draft.len
      → DraftsText s content (Ok d)
  outside : {r : ℕ} → InGrammar s → Filled s r → ((m : Message) → Means s m → Limits m → ⊥)
      → DraftsText s content (Err OutOfLimits)
  none : InGrammar s → ((r : ℕ) (fs : List Field) → Fills s r fs → ⊥) → DraftsText s content (Err BadMembers)
  not-json : (InGrammar s → ⊥) → DraftsText s content (Err NotInGrammar)

-- ---- from a draft to the answer

-- the refusal of a text whose members give no draft
abbrev pub refusal_of : Reason → Refusal
refusal_of Large = OutOfLimits
refusal_of NoValue = BadMembers

-- what stands beside a message is handed over, or the room is too short for it
abbrev pub handing : ℕ → Coded → ℕ → Asked
handing kind e len = record { kind = kind; message = e; len = len }

pub data Hands (kind : ℕ) (e : Coded) (c room : List ℕ) : Result Asked Refusal → List ℕ → Type 0 where
  all : length c ≤ length room
      → Hands kind e c room (Ok (handing kind e (length c))) (c ++ drop (length c) room)
  short : length room < length c → Hands kind e c room (Err NoRoom) room

-- so, if the message is one of the table; else it is refused
pub data HandsAllowed (kind : ℕ) (e : Coded) (c room : List ℕ) : Result Asked Refusal → List ℕ → Type 0 where
  good : {r : Result Asked Refusal} {later : List ℕ} {m : Message} → Says e c m → Good m
      → Hands kind e c room r later → HandsAllowed kind e c room r later
  refused : {why : Refusal} → Allows e c (Err why) → HandsAllowed kind e c room (Err why) room

-- a frame is written; a width that is none is a field outside its limits here
pub data Frames (kind : ℕ) (e : Coded) (c room : List ℕ) : Written → List ℕ → Type 0 where
  as-encoded : {r : Written} {later : List ℕ} → Encodes kind e c room r later → (written_refusal r ≡ 7 → ⊥)
      → Frames kind e c room r later
  no-width : {later : List ℕ} → Encodes kind e c room (Err BadForm) later
      → Frames kind e c room (Err OutOfLimits) later

-- why no frame is written, from the encoder's refusal
pub data Limited (why : Refusal) : Refusal → Type 0 where
  as-it-is : (refusal_number why ≡ 7 → ⊥) → Limited why why
  no-width : refusal_number why ≡ 7 → Limited why OutOfLimits
