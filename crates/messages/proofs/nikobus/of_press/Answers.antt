-- `messages::nikobus::of_press` meets its contract: digits that are none are refused.
-- Assumes nothing.
use Rattle.digits.proofs.Laws.Tests.{told, untold}
use Rattle.messages.proofs.Laws.Meant.{press-not-meant, press-meant}
use Rattle.messages.proofs.nikobus.of_press.Goals as goal

pub returns-then-not-is_press : goal.returns-then-not-is_press
returns-then-not-is_press c = press-not-meant (untold c.is_press.ensures c.if-not-is_press.true)

pub pressed-requires : goal.pressed-requires
pressed-requires c = (told c.is_press.ensures c.if-not-is_press.false).0

pub returns : goal.returns
returns c = press-meant (told c.is_press.ensures c.if-not-is_press.false) c.pressed.result c.pressed.ensures
