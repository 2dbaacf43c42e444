-- `messages::nikobus::link_allowed` meets its contract: the message of the digits is the link, or one above it.
-- Assumes nothing.
use Rattle.digits.proofs.Laws.Tests.{told, untold}
use Rattle.messages.proofs.Laws.Allowed.{above-link, not-above-link, no-digits, link-above, link-good}
use Rattle.messages.specs.Paper.Table.{content_of}
use Rattle.messages.specs.Work.Look.{look}
use Rattle.messages.proofs.nikobus.link_allowed.Goals as goal

pub returns-then-not-is_link : goal.returns-then-not-is_link
returns-then-not-is_link c = no-digits (untold c.is_link.ensures c.if-not-is_link.true)

pub linked-requires : goal.linked-requires
linked-requires c = told c.is_link.ensures c.if-not-is_link.false

pub returns-in-Link : goal.returns-in-Link
unfolding look content_of
returns-in-Link c = link-good c.linked.ensures.link c.linked.ensures.says (not-above-link c.linked.result c.linked.ensures.link.payload c.in-Link.is)

pub returns-in_default : goal.returns-in_default
unfolding look content_of
returns-in_default c = link-above c.linked.ensures.link c.linked.ensures.says (above-link c.linked.result c.linked.ensures.link.payload c.in_default.not-Link)
