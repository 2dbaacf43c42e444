-- Which message of document 01 a case of the code's enums means, with the bytes that stand beside it.
-- Assumes nothing.
use Rattle.std.specs.Prelude.{List, [], ◌∷◌, ◌≡◌, ℕ}
use Rattle.digits.specs.Paper.Bytes.{Bytes}
use Rattle.digits.specs.Paper.Hex.{hex_bytes}
use Rattle.layouts.specs.Paper.Made.{Wire, Payload}
use Rattle.frames.specs.declared.kinds.Kind.{Kind}
use Rattle.frames.specs.declared.kinds.Kind.TheVariants as kinds
use Rattle.messages.specs.Paper.Message.{Message, read, set, answer, press, tail, link, command, climate}
use Rattle.messages.specs.Paper.Message.{state, break, end, text, response, ask, reply, put, done, nibe}
use Rattle.messages.specs.Paper.Message.{output, input, shutter, beat, homiq}
use Rattle.messages.specs.declared.Message.{Message as Coded}
use Rattle.messages.specs.declared.Message.TheVariants.{Nikobus as OnNikobus, Command}
use Rattle.messages.specs.declared.Message.TheVariants.{Response as AsResponse, Nibe as OnNibe}
use Rattle.messages.specs.declared.Message.TheVariants.{Homiq as OnHomiq}
use Rattle.messages.specs.declared.nikobus.Six.{Six}
use Rattle.messages.specs.declared.nikobus.Nikobus.{Nikobus}
use Rattle.messages.specs.declared.nikobus.Nikobus.TheVariants.{Read, Set, Answer, Press, Tail, Link}
use Rattle.messages.specs.declared.nest.Response.{Response}
use Rattle.messages.specs.declared.nest.Response.TheVariants.{Climate, State, Break, End, Text}
use Rattle.messages.specs.declared.nest.Response.TheVariants as response_cases
use Rattle.messages.specs.declared.nibe.Nibe.{Nibe}
use Rattle.messages.specs.declared.nibe.Nibe.TheVariants.{Ask, Reply, Put, Done}
use Rattle.messages.specs.declared.nibe.Nibe.TheVariants as nibe_cases
use Rattle.messages.specs.declared.homiq.Homiq.{Homiq}
use Rattle.messages.specs.declared.homiq.Homiq.TheVariants.{Output, Input, Shutter, Beat}
use Rattle.messages.specs.declared.homiq.Homiq.TheVariants as homiq_cases

abbrev pub six : Six → List ℕ
six o = o.a ∷ o.b ∷ o.c ∷ o.d ∷ o.e ∷ o.f ∷ []

-- a Nikobus message; p is the payload of a link, and no other message takes anything from it
abbrev pub of_nikobus : Nikobus → List ℕ → Message
of_nikobus (Read g a) p = read g a
of_nikobus (Set g a out) p = set g a (six out)
of_nikobus (Answer a third out) p = answer a third (six out)
of_nikobus (Press digits) p = press (six digits)
of_nikobus Tail p = tail
of_nikobus Link p = link p

-- a Nest response whose frame has the payload p
abbrev pub of_response : Response → List ℕ → Message
of_response (Climate t h) p = climate t h
of_response State p = state p
of_response Break p = break
of_response End p = end
of_response (Text i) p = text i p
of_response (response_cases.Other i) p = response i p

-- a Nibe message whose frame has the data d
abbrev pub of_nibe : Nibe → List ℕ → Message
of_nibe (Ask r) d = ask r
of_nibe (Reply v) d = reply v.register v.width v.value
of_nibe (Put v) d = put v.register v.width v.value
of_nibe (Done ok) d = done ok
of_nibe (nibe_cases.Other c) d = nibe c d

-- a Homiq message with these six fields
abbrev pub of_homiq : Homiq → Wire → Message
of_homiq Output w = output w
of_homiq Input w = input w
of_homiq Shutter w = shutter w
of_homiq Beat w = beat w
of_homiq homiq_cases.Other w = homiq w

-- m is the link whose payload has the digits s
pub record SaysLink (s : List ℕ) (m : Message) : Type 0 where
  pub payload : List ℕ
  pub bytes : Bytes payload
  pub digits : s ≡ hex_bytes payload
  pub is : m ≡ link payload

-- m is a Nikobus message with s beside it
pub data SaysNikobus (e : Nikobus) (s : List ℕ) (m : Message) : Type 0 where
  -- a link's digits stand beside it
  a-link : e ≡ Link → SaysLink s m → SaysNikobus e s m
  -- the other messages take nothing from there
  another : (e ≡ Link → ⊥) → m ≡ of_nikobus e [] → SaysNikobus e s m

-- m is a Homiq message with s beside it: CMD to TYPE
pub record SaysHomiq (e : Homiq) (s : List ℕ) (m : Message) : Type 0 where
  pub wire : Wire
  pub payload : Payload s wire
  pub is : m ≡ of_homiq e wire

-- m is the message that the code's message e says with s beside it: its frame's payload
abbrev pub Says : Coded → List ℕ → Message → Type 0
Says (OnNikobus e) s m = SaysNikobus e s m
Says (Command i) s m = m ≡ command i s
Says (AsResponse e) s m = m ≡ of_response e s
Says (OnNibe e) s m = m ≡ of_nibe e s
Says (OnHomiq e) s m = SaysHomiq e s m

-- the kind whose message it is
abbrev pub kind_in : Coded → Kind
kind_in (OnNikobus e) = kinds.Nikobus
kind_in (Command i) = kinds.NestCommand
kind_in (AsResponse e) = kinds.NestResponse
kind_in (OnNibe e) = kinds.Nibe
kind_in (OnHomiq e) = kinds.Homiq
