-- `commands::nikobus::write_link` meets its contract: the link has the bytes that the digits are.
-- Assumes nothing.
use mathlib.Core.Path.{refl}
use Rattle.messages.specs.Paper.Content as content
use Rattle.messages.specs.Paper.Message.{link}
use Rattle.messages.specs.Paper.Table.{content_of}
use Rattle.commands.proofs.Laws.NikobusWrites.{link-by-digits}
use Rattle.commands.proofs.Laws.Written.{built}
use Rattle.commands.proofs.nikobus.write_link.Goals as goal

pub returns : goal.returns
unfolding content_of
returns c = link-by-digits c.link.result c.in-Some.ensures (built (link _) (content.link _) c.link.result refl c.link.ensures)
