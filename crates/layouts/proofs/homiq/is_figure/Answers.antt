-- `layouts::homiq::is_figure` meets its contract: the two tests are those of `is_figure`.
-- Assumes nothing.
use borrow.Author.Tests.{le-leb, lt-leb}
use Rattle.layouts.specs.Work.Homiq.{is_figure}
use Rattle.layouts.proofs.homiq.is_figure.Goals as goal

pub returns-then-c-lt48 : goal.returns-then-c-lt48
unfolding is_figure
returns-then-c-lt48 c = simp (lt-leb _ _ c.if-c-lt48.true)

pub returns : goal.returns
unfolding is_figure
returns c = simp (le-leb _ _ c.if-c-lt48.false)
