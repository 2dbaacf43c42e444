-- `layouts::nikobus::place` meets its contract: by the two ranges of characters.
-- Assumes nothing.
use borrow.Author.Tests.{lt-ltb, le-ltb}
use Rattle.digits.specs.Work.Hex.{place_of}
use Rattle.layouts.proofs.nikobus.place.Goals as goal

pub returns-then-c-lt65 : goal.returns-then-c-lt65
unfolding place_of
returns-then-c-lt65 c = simp (lt-ltb _ _ c.if-c-lt65.true)

pub returns : goal.returns
unfolding place_of
returns c = simp (le-ltb _ _ c.if-c-lt65.false)
