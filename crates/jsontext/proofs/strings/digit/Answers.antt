-- `strings::digit` meets its contract.
-- Assumes nothing.
use Rattle.jsontext.proofs.Laws.Places.{told-yes, told-no}
use Rattle.jsontext.proofs.Laws.Blanks.{hexes, class-one, class-none, class-end}
use Rattle.jsontext.proofs.strings.digit.Goals as goal

pub returns-then-s-p : goal.returns-then-s-p
returns-then-s-p c = class-end hexes c.if-s-p.true

pub returns-then-not-is_hex : goal.returns-then-not-is_hex
returns-then-not-is_hex c = class-none hexes c.if-s-p.false (told-no c.is_hex.ensures c.if-not-is_hex.true)

pub returns : goal.returns
returns c = class-one hexes c.if-s-p.false (told-yes c.is_hex.ensures c.if-not-is_hex.false)
