-- `wholes::whole` meets its contract.
-- Assumes nothing.
use Rattle.digits.proofs.Laws.Tests.{told, untold}
use Rattle.numbers.proofs.Laws.Signs.{raw-fits}
use Rattle.asked.proofs.Laws.Numbers.{read_number, read-raw, not-read, read-within, has-point, in-or-out, is-large, no_number}
use Rattle.asked.proofs.wholes.whole.Goals as goal

pub returns-then-read-ne0 : goal.returns-then-read-ne0
returns-then-read-ne0 c =
    has-point _ _ (read_number c.in-Ok.ensures) c.if-read-ne0.true

pub returns-else-read-ne0 : goal.returns-else-read-ne0
returns-else-read-ne0 c =
    in-or-out _ (read_number c.in-Ok.ensures) c.if-read-ne0.false
    (read-within (raw-fits _ (read-raw c.in-Ok.ensures)) c.ranges.least c.ranges.most c.within.ensures)

pub returns-then-is_whole : goal.returns-then-is_whole
returns-then-is_whole c =
    is-large c.requires.0 c.requires.1 (not-read _ c.in-Err.ensures) (told c.is_whole.ensures c.if-is_whole.true)

pub returns-else-is_whole : goal.returns-else-is_whole
returns-else-is_whole c =
    no_number (untold c.is_whole.ensures c.if-is_whole.false)
