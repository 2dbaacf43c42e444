-- `members::characters` meets its contract.
-- Assumes nothing.
use Rattle.jsontext.proofs.Laws.Narrow.{no-characters, too_short, all-written}
use Rattle.jsontext.proofs.Laws.Places.{told-yes, told-no}
use Rattle.jsontext.proofs.members.characters.Goals as goal

pub returns-then-not-is_narrow : goal.returns-then-not-is_narrow
returns-then-not-is_narrow c = no-characters (told-no c.is_narrow.ensures c.if-not-is_narrow.true)

pub returns-then-room-size : goal.returns-then-room-size
returns-then-room-size c =
    too_short (told-yes c.is_narrow.ensures c.if-not-is_narrow.false) c.count-size.ensures c.if-room-size.true

pub put-requires : goal.put-requires
put-requires c = (told-yes c.is_narrow.ensures c.if-not-is_narrow.false).bytes

pub returns : goal.returns
returns c =
    all-written (told-yes c.is_narrow.ensures c.if-not-is_narrow.false) c.count-size.ensures c.if-room-size.false
    c.put.ensures
