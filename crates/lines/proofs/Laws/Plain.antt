-- Without a sheet a line is document 01's.
-- Assumes nothing.
use mathlib.Core.List.{List, ◌∷◌, ◌++◌}
use mathlib.Core.Option.{none}
use mathlib.Core.Path.{◌≡◌, refl, ap}
use Prim.Native.Nat.{ℕ}
use Rattle.digits.specs.Paper.Ascii.{ascii}
use Rattle.json_values.specs.Paper.Json.{Member, ◌∶◌, object, number, quoted}
use Rattle.messages.specs.Paper.Message.{Message, read, set, answer, press, tail, link, command, climate, state, break, end, text, response, ask, reply, put, done, nibe, output, input, shutter, beat, homiq, name}
use Rattle.lines.specs.Paper.Line.{members, line}
use Rattle.lines.specs.Paper.WithSheet.{members_with, further_members, line_with}

plain-members : (m : Message) → members_with none m ++ further_members none m ≡ members m
unfolding members members_with further_members
plain-members (read g a) = refl
plain-members (set g a out) = refl
plain-members (answer a third out) = refl
plain-members (press d) = refl
plain-members tail = refl
plain-members (link p) = refl
plain-members (command i p) = refl
plain-members (climate t h) = refl
plain-members (state p) = refl
plain-members break = refl
plain-members end = refl
plain-members (text i p) = refl
plain-members (response i p) = refl
plain-members (ask r) = refl
plain-members (reply r w v) = refl
plain-members (put r w v) = refl
plain-members (done ok) = refl
plain-members (nibe c d) = refl
plain-members (output w) = refl
plain-members (input w) = refl
plain-members (shutter w) = refl
plain-members (beat w) = refl
plain-members (homiq w) = refl

pub plain-line : (at len : ℕ) (m : Message) → line_with none at len m ≡ line at len m
unfolding line line_with
plain-line at len m =
    ap (λ (ms : List Member). object (ascii "at" ∶ number at ∷ ascii "len" ∶ number len ∷ ascii "msg" ∶ quoted (name m) ∷ ms) ++ ascii "\n") (plain-members m)
