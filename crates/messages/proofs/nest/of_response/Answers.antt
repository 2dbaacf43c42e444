-- `messages::nest::of_response` meets its contract: a payload that is too long is refused, and else its message is the one.
-- Assumes nothing.
use Rattle.digits.proofs.Laws.Tests.{told, untold}
use Rattle.messages.proofs.Laws.Meant.{response-not-meant, response-meant}
use Rattle.messages.proofs.nest.of_response.Goals as goal

pub returns-then-not-is_short : goal.returns-then-not-is_short
returns-then-not-is_short c = response-not-meant (untold c.is_short.ensures c.if-not-is_short.true)

pub returns : goal.returns
returns c = response-meant c.ranges.id.fits (told c.is_short.ensures c.if-not-is_short.false) (record { each = λ i. (c.type_inv.payload i).fits }) c.message.ensures
