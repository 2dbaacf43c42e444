-- `book::contents::word` meets its contract: the number of two bytes is the one that they are.
-- Assumes nothing.
use Rattle.book.proofs.Laws.Contents.{word_at}
use Rattle.book.proofs.contents.word.Goals as goal

pub returns : goal.returns
returns c = word_at c.requires c.two.ensures.0 c.two.ensures.1
