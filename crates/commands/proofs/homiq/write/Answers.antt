-- `commands::homiq::write` meets its contract: the frame with this payload is the frame of the message that is said with it.
-- Assumes nothing.
use Rattle.commands.proofs.Laws.HomiqWrites.{homiq-written}
use Rattle.commands.proofs.homiq.write.Goals as goal

pub returns : goal.returns
returns c = homiq-written c.args.message c.args.content.now c.frame.result c.frame.ensures
