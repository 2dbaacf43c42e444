-- `builds::nikobus::tail` meets its contract: the text is the layout's.
-- Assumes nothing.
use mathlib.Core.Path.{refl}
use Rattle.layouts.specs.Paper.Nikobus.{nikobus, tail, tail-limits}
use Rattle.builds.proofs.Laws.Built.{fronted}
use Rattle.builds.proofs.nikobus.tail.Goals as goal

pub returns : goal.returns
returns c = fronted nikobus tail c.args.room.now tail-limits c.front.result refl c.front.ensures
