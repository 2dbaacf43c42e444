-- `book::listing::put` meets its contract: what is left, put from here on, completes the lines of the book.
-- Assumes nothing.
use Rattle.sheet.specs.Paper.Map.{sheet_in}
use Rattle.book.specs.Work.Writing.{Listing}
use Rattle.book.proofs.listing.put.Given as goal

abbrev pub invariant-loop-i : goal.invariant-loop-i
invariant-loop-i l = Listing (sheet_in l.map) l.book l.places l.initial.room l.room l.count l.next l.i l.at
