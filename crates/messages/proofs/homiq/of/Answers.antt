-- `messages::homiq::of` meets its contract: fields that are none are refused, and else their message is the one.
-- Assumes nothing.
use Rattle.digits.proofs.Laws.Tests.{told, untold}
use Rattle.messages.proofs.Laws.Meant.{homiq-not-meant, homiq-meant}
use Rattle.messages.proofs.homiq.of.Goals as goal

pub returns-then-not-is_payload : goal.returns-then-not-is_payload
returns-then-not-is_payload c = homiq-not-meant (untold c.is_payload.ensures c.if-not-is_payload.true)

pub returns : goal.returns
returns c = homiq-meant (told c.is_payload.ensures c.if-not-is_payload.false) c.message_of.ensures
