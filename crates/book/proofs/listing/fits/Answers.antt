-- `book::listing::fits` meets its contract: a room of a size that the lines never exceed is not measured for.
-- Assumes nothing.
use Rattle.puts.proofs.Laws.Sizes.{sized-fits}
use Rattle.book.proofs.Laws.Listed.{always-fits}
use Rattle.book.proofs.listing.fits.Goals as goal

pub returns-then-most-room : goal.returns-then-most-room
returns-then-most-room c = always-fits c.requires.counts c.args.room c.most.ensures c.if-most-room.true

pub returns : goal.returns
returns c = sized-fits c.args.room c.size.ensures
