-- `messages::nest::of_command` meets its contract: a payload that is too long is refused.
-- Assumes nothing.
use Rattle.digits.proofs.Laws.Tests.{told, untold}
use Rattle.messages.proofs.Laws.Meant.{command-not-meant, command-meant}
use Rattle.messages.proofs.nest.of_command.Goals as goal

pub returns-then-not-is_short : goal.returns-then-not-is_short
returns-then-not-is_short c = command-not-meant (untold c.is_short.ensures c.if-not-is_short.true)

pub returns : goal.returns
returns c = command-meant c.ranges.id.fits (told c.is_short.ensures c.if-not-is_short.false) (record { each = λ i. (c.type_inv.payload i).fits })
