-- `commands::nikobus::write_answer` meets its contract: the link has the content of the row.
-- Assumes nothing.
use mathlib.Core.Path.{ap}
use mathlib.Core.List.{◌∷◌}
use Rattle.messages.specs.Paper.Content as content
use Rattle.messages.specs.Paper.Message.{answer}
use Rattle.messages.specs.Paper.Says.{six}
use Rattle.messages.specs.Paper.Table.{content_of}
use Rattle.commands.proofs.Laws.NikobusWrites.{behind-address}
use Rattle.commands.proofs.Laws.Written.{built}
use Rattle.commands.proofs.nikobus.write_answer.Goals as goal

pub returns : goal.returns
unfolding content_of
returns c = built (answer c.args.address c.args.third (six c.args.out)) (content.link _) c.link.result (ap content.link (behind-address c.args.address (c.args.third ∷ six c.args.out) c.two-a.ensures)) c.link.ensures
