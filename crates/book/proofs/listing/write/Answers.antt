-- `book::listing::write` meets its contract: all of the lines where the room has room for them, and else nothing.
-- Assumes nothing.
use mathlib.Core.Path.{subst}
use lib.ListN.{length}
use Rattle.sheet.specs.Paper.Map.{sheet_in}
use Rattle.book.specs.Work.Writing.{Fits}
use Rattle.book.proofs.Laws.Listed.{list-refused-4, list_written}
use Rattle.book.proofs.listing.write.Goals as goal

pub returns-then-not-fits : goal.returns-then-not-fits
returns-then-not-fits c =
    list-refused-4 (subst (Fits (sheet_in c.args.map.now) c.args.book.now (length c.args.room.now)) c.if-not-fits.true c.fits.ensures)

pub returns : goal.returns
returns c =
    list_written (subst (Fits (sheet_in c.args.map.now) c.args.book.now (length c.args.room.now)) c.if-not-fits.false c.fits.ensures) c.put.ensures
