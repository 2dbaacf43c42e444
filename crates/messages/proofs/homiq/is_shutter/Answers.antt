-- `messages::homiq::is_shutter` meets its contract: the tests are the statement's two parts.
-- Assumes nothing.
use Rattle.messages.proofs.Laws.Telling.{first-fails, second-tells}
use Rattle.messages.proofs.homiq.is_shutter.Goals as goal

pub returns-then-same : goal.returns-then-same
returns-then-same c = second-tells c.same.ensures c.if-same.true c.is_letter.ensures

pub returns-else-same : goal.returns-else-same
returns-else-same c = first-fails c.same.ensures c.if-same.false
