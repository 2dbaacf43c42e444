-- `commands::nikobus::write_set` meets its contract: the link has the content of the row.
-- Assumes nothing.
use mathlib.Core.Path.{ap}
use Rattle.messages.specs.Paper.Content as content
use Rattle.messages.specs.Paper.Message.{set}
use Rattle.messages.specs.Paper.Says.{six}
use Rattle.messages.specs.Paper.Table.{content_of}
use Rattle.commands.proofs.Laws.NikobusWrites.{set-payload}
use Rattle.commands.proofs.Laws.Written.{built}
use Rattle.commands.proofs.nikobus.write_set.Goals as goal

pub returns : goal.returns
unfolding content_of
returns c = built (set c.args.group c.args.address (six c.args.out)) (content.link _) c.link.result (ap content.link (set-payload c.args.group c.args.address (six c.args.out) c.code_of.ensures c.two-a.ensures)) c.link.ensures
