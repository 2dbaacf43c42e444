-- What the code's messages say: a message and what stands beside it have one case, and one case and what stands beside it one message.
-- Assumes nothing.
use mathlib.Core.Path.{◌≡◌, refl, sym, ◌∙◌, ap}
use mathlib.Core.List.{List, []}
use Prim.Native.Nat.{ℕ}
use lib.ListN.{get_or}
use Rattle.digits.proofs.Laws.Hex.{hex-inj}
use Rattle.layouts.specs.Paper.Made.{Wire}
use Rattle.messages.specs.Paper.Message.{Message, read, set, answer, press, tail, link, command, climate, state, break, end, text, response, ask, reply, put, done, nibe, output, input, shutter, beat, homiq}
use Rattle.messages.specs.Paper.Says.{of_nikobus, of_response, of_nibe, of_homiq, SaysNikobus, a-link, another, Says}
use Rattle.messages.specs.declared.Message.{Message as Coded}
use Rattle.messages.specs.declared.Message.TheVariants.{Nikobus as OnNikobus, Command, Response as AsResponse, Nibe as OnNibe, Homiq as OnHomiq}
use Rattle.messages.specs.declared.nikobus.Six.{Six}
use Rattle.messages.specs.declared.nikobus.Nikobus.{Nikobus}
use Rattle.messages.specs.declared.nikobus.Nikobus.TheVariants.{Read, Set, Answer, Press, Tail, Link}
use Rattle.messages.specs.declared.nest.Response.{Response}
use Rattle.messages.specs.declared.nest.Response.TheVariants.{Climate, State, Break, End, Text}
use Rattle.messages.specs.declared.nest.Response.TheVariants as response_cases
use Rattle.messages.specs.declared.nibe.Nibe.{Nibe}
use Rattle.messages.specs.declared.nibe.Nibe.TheVariants.{Ask, Reply, Put, Done}
use Rattle.messages.specs.declared.nibe.Nibe.TheVariants as nibe_cases
use Rattle.messages.specs.declared.nibe.Valued.{Valued}
use Rattle.messages.specs.declared.homiq.Homiq.{Homiq}
use Rattle.messages.specs.declared.homiq.Homiq.TheVariants.{Output, Input, Shutter, Beat}
use Rattle.messages.specs.declared.homiq.Homiq.TheVariants as homiq_cases
use Rattle.messages.proofs.Laws.HomiqFields.{one-wire}

-- ---- the case of a message

abbrev six_of : List ℕ → Six
six_of s = record { a = get_or s 0 0; b = get_or s 1 0; c = get_or s 2 0; d = get_or s 3 0; e = get_or s 4 0; f = get_or s 5 0 }

abbrev valued_of : ℕ → ℕ → ℕ → Valued
valued_of r w v = record { register = r; width = w; value = v }

abbrev pub case_of : Message → Coded
case_of (read g a) = OnNikobus (Read g a)
case_of (set g a out) = OnNikobus (Set g a (six_of out))
case_of (answer a third out) = OnNikobus (Answer a third (six_of out))
case_of (press d) = OnNikobus (Press (six_of d))
case_of tail = OnNikobus Tail
case_of (link p) = OnNikobus Link
case_of (command i p) = Command i
case_of (climate t h) = AsResponse (Climate t h)
case_of (state p) = AsResponse State
case_of break = AsResponse Break
case_of end = AsResponse End
case_of (text i p) = AsResponse (Text i)
case_of (response i p) = AsResponse (response_cases.Other i)
case_of (ask r) = OnNibe (Ask r)
case_of (reply r w v) = OnNibe (Reply (valued_of r w v))
case_of (put r w v) = OnNibe (Put (valued_of r w v))
case_of (done ok) = OnNibe (Done ok)
case_of (nibe c d) = OnNibe (nibe_cases.Other c)
case_of (output w) = OnHomiq Output
case_of (input w) = OnHomiq Input
case_of (shutter w) = OnHomiq Shutter
case_of (beat w) = OnHomiq Beat
case_of (homiq w) = OnHomiq homiq_cases.Other

nikobus-case : (e : Nikobus) (p : List ℕ) → case_of (of_nikobus e p) ≡ OnNikobus e
nikobus-case (Read g a) p = refl
nikobus-case (Set g a out) p = refl
nikobus-case (Answer a third out) p = refl
nikobus-case (Press d) p = refl
nikobus-case Tail p = refl
nikobus-case Link p = refl

response-case : (e : Response) (p : List ℕ) → case_of (of_response e p) ≡ AsResponse e
response-case (Climate t h) p = refl
response-case State p = refl
response-case Break p = refl
response-case End p = refl
response-case (Text i) p = refl
response-case (response_cases.Other i) p = refl

nibe-case : (e : Nibe) (d : List ℕ) → case_of (of_nibe e d) ≡ OnNibe e
nibe-case (Ask r) d = refl
nibe-case (Reply v) d = refl
nibe-case (Put v) d = refl
nibe-case (Done ok) d = refl
nibe-case (nibe_cases.Other c) d = refl

pub homiq-case : (e : Homiq) (w : Wire) → case_of (of_homiq e w) ≡ OnHomiq e
homiq-case Output w = refl
homiq-case Input w = refl
homiq-case Shutter w = refl
homiq-case Beat w = refl
homiq-case homiq_cases.Other w = refl

said-case : (e : Nikobus) (s : List ℕ) (m : Message) → SaysNikobus e s m → case_of m ≡ OnNikobus e
said-case e s m (a-link h l) = ap case_of l.is ∙ ap OnNikobus (sym h)
said-case e s m (another h i) = ap case_of i ∙ nikobus-case e []

pub case-of : (e : Coded) (s : List ℕ) (m : Message) → Says e s m → case_of m ≡ e
case-of (OnNikobus e) s m a = said-case e s m a
case-of (Command i) s m a = ap case_of a
case-of (AsResponse e) s m a = ap case_of a ∙ response-case e s
case-of (OnNibe e) s m a = ap case_of a ∙ nibe-case e s
case-of (OnHomiq e) s m a = ap case_of a.is ∙ homiq-case e a.wire

-- ONE CASE for a message
pub one-case : (d e : Coded) (s t : List ℕ) (m : Message) → Says d s m → Says e t m → d ≡ e
one-case d e s t m a b = sym (case-of d s m a) ∙ case-of e t m b

-- ---- ONE MESSAGE for a case with what stands beside it

one-nikobus : {e : Nikobus} {s : List ℕ} {m n : Message} → SaysNikobus e s m → SaysNikobus e s n → m ≡ n
one-nikobus (a-link h a) (a-link g b) =
    a.is ∙ ap link (hex-inj a.payload b.payload a.bytes b.bytes (sym a.digits ∙ b.digits)) ∙ sym b.is
one-nikobus (a-link h a) (another g j) = absurd (g h)
one-nikobus (another h i) (a-link g b) = absurd (h g)
one-nikobus (another h i) (another g j) = i ∙ sym j

pub one-said : (e : Coded) (s : List ℕ) (m n : Message) → Says e s m → Says e s n → m ≡ n
one-said (OnNikobus e) s m n a b = one-nikobus a b
one-said (Command i) s m n a b = a ∙ sym b
one-said (AsResponse e) s m n a b = a ∙ sym b
one-said (OnNibe e) s m n a b = a ∙ sym b
one-said (OnHomiq e) s m n a b = a.is ∙ ap (of_homiq e) (one-wire a.payload b.payload) ∙ sym b.is
