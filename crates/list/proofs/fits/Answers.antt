-- `list::fits` meets its contract: the bound suffices, and else the listing is measured.
-- Assumes nothing.
use Rattle.puts.proofs.Laws.Sizes.{sized-fits}
use Rattle.list.proofs.Laws.Written.{always-fits}
use Rattle.lines.proofs.Laws.Types.{in-types}
use Rattle.list.proofs.fits.Goals as goal

pub returns-then-s-room : goal.returns-then-s-room
returns-then-s-room c = always-fits (in-types c.args.map.now) c.requires c.args.room c.if-room-ge-MOST.true c.if-s-room.true

pub returns : goal.returns
returns c = sized-fits c.args.room c.size.ensures
