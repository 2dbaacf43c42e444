-- `messages::nikobus::of_link` meets its contract: digits that are none are refused, and else the link's message is the one.
-- Assumes nothing.
use Rattle.digits.proofs.Laws.Tests.{told, untold}
use Rattle.messages.proofs.Laws.Meant.{link-not-meant, link-meant}
use Rattle.messages.proofs.nikobus.of_link.Goals as goal

pub returns-then-not-is_link : goal.returns-then-not-is_link
returns-then-not-is_link c = link-not-meant (untold c.is_link.ensures c.if-not-is_link.true)

pub linked-requires : goal.linked-requires
linked-requires c = told c.is_link.ensures c.if-not-is_link.false

pub returns : goal.returns
returns c = link-meant c.linked.ensures
