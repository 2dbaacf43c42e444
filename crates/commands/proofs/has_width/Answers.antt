-- `commands::has_width` meets its contract: only Nibe's messages have a width.
-- Assumes nothing.
use Rattle.commands.proofs.Laws.Widths.{no-width-in}
use Rattle.commands.proofs.has_width.Goals as goal

pub returns-in_default : goal.returns-in_default
returns-in_default c = no-width-in c.args.message c.in_default.not-Nibe
