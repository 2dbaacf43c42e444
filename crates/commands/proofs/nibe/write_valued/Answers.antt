-- `commands::nibe::write_valued` meets its contract: of six bytes those of the width are the frame's data.
-- Assumes nothing.
use Rattle.commands.proofs.Laws.NibeWrites.{valued-built}
use Rattle.commands.proofs.nibe.write_valued.Goals as goal

pub returns : goal.returns
returns c = valued-built c.args.command c.args.v.register c.args.v.value c.frame.result c.valued_bytes-content.ensures c.frame.ensures
