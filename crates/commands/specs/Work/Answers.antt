-- What the functions below the public ones promise.
-- Assumes nothing.
use Rattle.std.specs.Prelude.{List, ℕ, length}
use Rattle.digits.specs.Paper.LowFirst.{Width}
use Rattle.puts.specs.Paper.Right.{WritesRight}
use Rattle.puts.specs.Paper.Wrote.{RoomCause, Writes, Written}
use Rattle.messages.specs.Paper.Message.{Message}
use Rattle.messages.specs.Paper.Table.{bytes, Limits}
use Rattle.commands.specs.Paper.Answers.{MessageCause, MeantBytes}
use Rattle.messages.specs.declared.Message.{Message as Coded}
use Rattle.messages.specs.declared.Message.TheVariants.{Nikobus as OnNikobus, Command, Response as AsResponse}
use Rattle.messages.specs.declared.Message.TheVariants.{Nibe as OnNibe, Homiq as OnHomiq}
use Rattle.messages.specs.declared.nibe.Nibe.{Nibe}
use Rattle.messages.specs.declared.nibe.Nibe.TheVariants.{Ask, Reply, Put, Done, Other}

-- r is the right answer, and `later` the right room afterwards, of writing the message that is meant
abbrev pub WritesMeant : (Message → Type 0) → List ℕ → Written → List ℕ → Type 0
WritesMeant Means room r later = WritesRight (MessageCause Means (length room)) (MeantBytes Means) room r later

-- a message that is meant and within its limits is written, all of its bytes or none
abbrev pub WritesMessage : (Message → Type 0) → List ℕ → Written → List ℕ → Type 0
WritesMessage Means room r later =
    (m : Message) → Means m → Limits m → Writes (RoomCause (length room) (length (bytes m))) (bytes m) room r later

-- the width of a message's value is 1, 2 or 4
abbrev pub NibeWidth : Nibe → Type 0
NibeWidth (Ask r) = Unit
NibeWidth (Reply v) = Width v.width
NibeWidth (Put v) = Width v.width
NibeWidth (Done ok) = Unit
NibeWidth (Other c) = Unit

abbrev pub WidthIn : Coded → Type 0
WidthIn (OnNikobus e) = Unit
WidthIn (Command i) = Unit
WidthIn (AsResponse e) = Unit
WidthIn (OnNibe e) = NibeWidth e
WidthIn (OnHomiq e) = Unit
