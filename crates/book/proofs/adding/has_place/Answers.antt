-- `book::adding::has_place` meets its contract: first the entries, then the bytes.
-- Assumes nothing.
use native.Mathlib.Omega.{arith}
use Rattle.book.proofs.Laws.Place.{full, none_free, free-for}
use Rattle.book.proofs.adding.has_place.Goals as goal

pub returns-then-count-ge-MOST_ENTRIES : goal.returns-then-count-ge-MOST_ENTRIES
returns-then-count-ge-MOST_ENTRIES c = full {count = c.args.count} (omega (arith, c.if-count-ge-MOST_ENTRIES.true))

pub returns-then-free-lt-ADDED : goal.returns-then-free-lt-ADDED
returns-then-free-lt-ADDED c = none_free c.if-free-lt-ADDED.true

pub returns : goal.returns
returns c =
    free-for c.args.count c.args.size c.args.frame (omega (arith, c.if-count-ge-MOST_ENTRIES.false)) c.requires c.if-free-lt-ADDED.false
