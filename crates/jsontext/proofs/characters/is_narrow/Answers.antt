-- `characters::is_narrow` meets its contract.
-- Assumes nothing.
use Rattle.jsontext.proofs.Laws.Narrow.{too_long, no-string, more-behind, by_bytes}
use Rattle.jsontext.proofs.Laws.Places.{found}
use Rattle.jsontext.proofs.characters.is_narrow.Goals as goal

pub returns-then-text-gt-MOST_BYTES : goal.returns-then-text-gt-MOST_BYTES
returns-then-text-gt-MOST_BYTES c = too_long c.if-text-gt-MOST_BYTES.true

pub returns-in_default : goal.returns-in_default
returns-in_default c = no-string c.in_default.ensures

pub returns-then-end-text : goal.returns-then-end-text
returns-then-end-text c = more-behind (found c.in-Some.ensures) c.if-end-text.true

pub returns : goal.returns
returns c =
    by_bytes c.if-text-gt-MOST_BYTES.false (found c.in-Some.ensures) c.if-end-text.false c.all_narrow.ensures
