-- `book::opening::is_offset` meets its contract: the four bytes are those of the place.
-- Assumes nothing.
use native.Mathlib.Omega.{arith}
use Rattle.book.proofs.Laws.Reading.{compared}
use Rattle.book.proofs.opening.is_offset.Goals as goal

pub returns : goal.returns
returns c = compared c.four.ensures.0 (omega (arith, c.requires.place_bound)) c.four.ensures.1 (omega arith)
