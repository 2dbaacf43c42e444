-- `numbers::text::stepped` meets its contract: a digit, or a character before `0`.
-- Assumes nothing.
use borrow.Author.Tests.{lt-ltb, le-ltb}
use Rattle.numbers.proofs.text.stepped.Goals as goal

pub returns-then-c-lt48 : goal.returns-then-c-lt48
returns-then-c-lt48 c = simp (lt-ltb _ _ c.if-c-lt48.true)

pub returns : goal.returns
returns c = simp (le-ltb _ _ c.if-c-lt48.false)
