-- `book::locate` meets its contract: the entry stands where the trailer says, and its head says the rest.
-- Assumes nothing.
use native.Mathlib.Omega.{arith}
use Rattle.book.proofs.Laws.Entries.{counts-trailed, entry-placed, entry-told, numbered-inside}
use Rattle.book.proofs.Laws.Layout.{length-entry}
use Rattle.book.proofs.locate.Goals as goal

pub offset-offset-requires : goal.offset-offset-requires
offset-offset-requires c = let t = counts-trailed c.requires.counts in record { number_lt_count = c.requires.number_lt_count; count_in_bounds = t.room; book_len_bound = t.small }

pub head_at-head-requires : goal.head_at-head-requires
head_at-head-requires c =
    let x = entry-placed c.requires.counts c.requires.number_lt_count c.offset-offset.ensures.0 c.offset-offset.ensures.1 in
    record { at_in_bounds = omega (arith, numbered-inside c.requires.counts.valid x.1, length-entry x.0); book_len_bound = (counts-trailed c.requires.counts).small }

pub returns : goal.returns
returns c =
    let x = entry-placed c.requires.counts c.requires.number_lt_count c.offset-offset.ensures.0 c.offset-offset.ensures.1 in
    entry-told c.requires.counts.valid x.1 c.head_at-head.ensures
