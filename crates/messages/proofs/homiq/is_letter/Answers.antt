-- `messages::homiq::is_letter` meets its contract: the letters have the one character.
-- Assumes nothing.
use Rattle.messages.proofs.Laws.HomiqLook.{letter-among, no-letter}
use Rattle.messages.proofs.homiq.is_letter.Goals as goal

pub returns-then-val-eq1 : goal.returns-then-val-eq1
returns-then-val-eq1 c = letter-among _ _ c.if-val-eq1.true c.contains.ensures.value

pub returns-else-val-eq1 : goal.returns-else-val-eq1
returns-else-val-eq1 c = no-letter c.if-val-eq1.false
