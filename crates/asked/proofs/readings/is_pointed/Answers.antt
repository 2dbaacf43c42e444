-- `readings::is_pointed` meets its contract: the room has a place for each character that a string can have.
-- Assumes nothing.
use mathlib.Core.Path.{refl}
use native.Mathlib.Omega.{arith}
use Rattle.digits.proofs.Laws.Parts.{part-front}
use Rattle.jsontext.proofs.Theorems.{string-length}
use Rattle.asked.proofs.Laws.Agree.{string-read, string-unread, same-string}
use Rattle.asked.proofs.readings.is_pointed.Goals as goal

pub returns-in_default : goal.returns-in_default
returns-in_default c = string-unread c.in_default.ensures.reads (λ y. omega (arith, string-length _ _ y, y.short))

pub returns : goal.returns
returns c =
    same-string (string-read c.in-Ok.ensures.reads) (part-front c.in-Ok.len c.chars.new.room) refl c.is_pointed_so.ensures
