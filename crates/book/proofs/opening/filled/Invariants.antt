-- `book::opening::filled` meets its contract. The loop's invariant: the entries that are left fill the book from here exactly where all
-- of them fill the whole, and what is noted of them completes what has been noted. The measure is how many are left.
-- Assumes nothing.
use Rattle.book.specs.Work.Reading.{Turns}
use Rattle.book.proofs.opening.filled.Given as goal

abbrev pub invariant-loop-i : goal.invariant-loop-i
invariant-loop-i l = Turns l.s l.count l.end l.places l.i l.at
