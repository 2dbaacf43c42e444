-- The case that the code has for a message tells the kind of its frame.
-- Assumes nothing.
use mathlib.Core.Path.{◌≡◌, refl, ◌∙◌, ap}
use mathlib.Core.List.{List}
use Prim.Native.Nat.{ℕ}
use Rattle.messages.specs.Paper.Content.{kind_of}
use Rattle.messages.specs.Paper.Message.{Message, read, set, answer, press, tail, link, command, climate, state, break, end, text, response, ask, reply, put, done, nibe, output, input, shutter, beat, homiq}
use Rattle.messages.specs.Paper.Says.{Says, kind_in}
use Rattle.messages.specs.Paper.Table.{content_of}
use Rattle.messages.specs.declared.Message.{Message as Coded}
use Rattle.messages.proofs.Laws.Says.{case_of, case-of}

case-kind : (m : Message) → kind_of (content_of m) ≡ kind_in (case_of m)
unfolding content_of
case-kind (read g a) = refl
case-kind (set g a out) = refl
case-kind (answer a third out) = refl
case-kind (press d) = refl
case-kind tail = refl
case-kind (link p) = refl
case-kind (command i p) = refl
case-kind (climate t h) = refl
case-kind (state p) = refl
case-kind break = refl
case-kind end = refl
case-kind (text i p) = refl
case-kind (response i p) = refl
case-kind (ask r) = refl
case-kind (reply r w v) = refl
case-kind (put r w v) = refl
case-kind (done ok) = refl
case-kind (nibe c d) = refl
case-kind (output w) = refl
case-kind (input w) = refl
case-kind (shutter w) = refl
case-kind (beat w) = refl
case-kind (homiq w) = refl

pub said-kind : (e : Coded) (s : List ℕ) (m : Message) → Says e s m → kind_of (content_of m) ≡ kind_in e
said-kind e s m a = case-kind m ∙ ap kind_in (case-of e s m a)
