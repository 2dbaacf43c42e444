-- `layouts::nibe::may_start` meets its contract: by its tests.
-- Assumes nothing.
use borrow.Author.Tests.{le-leb, lt-leb}
use Rattle.layouts.specs.Paper.Starts.{nibe_starts}
use Rattle.layouts.proofs.nibe.may_start.Goals as goal

pub returns-then-s-lt3 : goal.returns-then-s-lt3
unfolding nibe_starts
returns-then-s-lt3 c = simp (lt-leb _ _ c.if-s-lt3.true)

pub returns : goal.returns
unfolding nibe_starts
returns c = simp (le-leb 3 _ c.if-s-lt3.false)
