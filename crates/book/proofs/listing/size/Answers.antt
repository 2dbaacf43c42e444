-- `book::listing::size` meets its contract: the place behind lines from the front of a room is their length.
-- Assumes nothing.
use Rattle.book.proofs.Laws.Listed.{measured}
use Rattle.book.proofs.listing.size.Goals as goal

pub returns : goal.returns
returns c = measured c.requires.counts c.args.map.now c.put.ensures
