-- `commands::nibe::has_width` meets its contract, message by message.
-- Assumes nothing.
use Rattle.commands.proofs.Laws.Widths.{no-nibe-width}
use Rattle.commands.proofs.nibe.has_width.Goals as goal

pub returns-in_default : goal.returns-in_default
returns-in_default c = no-nibe-width c.args.message c.in_default.not-Reply c.in_default.not-Put
