-- `commands::nest::write_command` meets its contract: the frame has the command's content.
-- Assumes nothing.
use mathlib.Core.Path.{refl}
use Rattle.messages.specs.Paper.Content as content
use Rattle.messages.specs.Paper.Message.{command}
use Rattle.messages.specs.Paper.Table.{content_of}
use Rattle.commands.proofs.Laws.Written.{built}
use Rattle.commands.proofs.nest.write_command.Goals as goal

pub returns : goal.returns
unfolding content_of
returns c = built (command c.args.id c.args.payload.now) (content.command c.args.id c.args.payload.now) c.frame.result refl c.frame.ensures
