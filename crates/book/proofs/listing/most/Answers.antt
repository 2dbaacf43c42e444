-- `book::listing::most` meets its contract: without a sheet, no lines of a book are longer than eight times the book and 40 bytes an entry.
-- By a sheet, none are longer than 26 times the book.
-- Assumes nothing.
use native.Mathlib.Omega.{arith}
use Rattle.book.proofs.Laws.Entries.{counts-trailed}
use Rattle.book.proofs.Laws.Listed.{most-plain, most-mapped}
use Rattle.book.proofs.listing.most.Goals as goal

pub overflow_mul-result : goal.overflow_mul-result
overflow_mul-result c = omega (arith, (counts-trailed c.requires).small)

pub overflow_mul-result-then-map-eq0 : goal.overflow_mul-result-then-map-eq0
overflow_mul-result-then-map-eq0 c = omega (arith, (counts-trailed c.requires).few)

pub overflow_add-result : goal.overflow_add-result
overflow_add-result c = omega (arith, (counts-trailed c.requires).small, (counts-trailed c.requires).few)

pub returns-then-map-eq0 : goal.returns-then-map-eq0
returns-then-map-eq0 c = most-plain c.requires c.args.map.now c.if-map-eq0.true

pub overflow_mul-result-2 : goal.overflow_mul-result-2
overflow_mul-result-2 c = omega (arith, (counts-trailed c.requires).small)

pub returns : goal.returns
returns c = most-mapped c.requires c.args.map.now
