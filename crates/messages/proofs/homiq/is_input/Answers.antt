-- `messages::homiq::is_input` meets its contract: the tests are the statement's two parts.
-- Assumes nothing.
use Rattle.messages.proofs.Laws.Telling.{first-fails, second-tells}
use Rattle.messages.proofs.homiq.is_input.Goals as goal

pub returns-then-is_marked_number : goal.returns-then-is_marked_number
returns-then-is_marked_number c = second-tells c.is_marked_number.ensures c.if-is_marked_number.true c.is_letter.ensures

pub returns-else-is_marked_number : goal.returns-else-is_marked_number
returns-else-is_marked_number c = first-fails c.is_marked_number.ensures c.if-is_marked_number.false
