-- `layouts::nest::three` meets its contract: by its tests.
-- Assumes nothing.
use borrow.Author.Tests.{le-leb, lt-leb}
use Rattle.layouts.proofs.nest.three.Goals as goal

pub returns-then-s-lt3 : goal.returns-then-s-lt3
returns-then-s-lt3 c = simp (lt-leb _ _ c.if-s-lt3.true)

pub returns : goal.returns
returns c = simp (le-leb 3 _ c.if-s-lt3.false)
