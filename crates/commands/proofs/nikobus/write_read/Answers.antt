-- `commands::nikobus::write_read` meets its contract: the link has the content of the row.
-- Assumes nothing.
use mathlib.Core.Path.{ap}
use Rattle.messages.specs.Paper.Content as content
use Rattle.messages.specs.Paper.Message.{read}
use Rattle.messages.specs.Paper.Table.{content_of}
use Rattle.commands.proofs.Laws.NikobusWrites.{read-payload}
use Rattle.commands.proofs.Laws.Written.{built}
use Rattle.commands.proofs.nikobus.write_read.Goals as goal

pub returns : goal.returns
unfolding content_of
returns c = built (read c.args.group c.args.address) (content.link _) c.link.result (ap content.link (read-payload c.args.group c.args.address c.code_of.ensures c.two-a.ensures)) c.link.ensures
