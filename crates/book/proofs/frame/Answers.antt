-- `book::frame` meets its contract: the part of the book that was told of the entry.
-- Assumes nothing.
use mathlib.Core.Path.{refl}
use native.Mathlib.Nat.{sub_self}
use native.Mathlib.Omega.{arith}
use Rattle.book.proofs.Laws.Entries.{entry_of, told-inside, hands-frame, hands-nothing}
use borrow.Author.Rules.{rules}
use Rattle.book.proofs.frame.Goals as goal

pub slice_bounds-result-count : goal.slice_bounds-result-count
slice_bounds-result-count c = let o = entry_of c.in-Ok.ensures in omega (arith, (told-inside o).0, o.from_is)

pub slice_bounds-result-start : goal.slice_bounds-result-start
slice_bounds-result-start c = let o = entry_of c.in-Ok.ensures in omega (arith, (told-inside o).0, o.from_is)

pub slice_bounds-result-end : goal.slice_bounds-result-end
slice_bounds-result-end c = let o = entry_of c.in-Ok.ensures in omega (arith, (told-inside o).1)

pub returns-in-Ok : goal.returns-in-Ok
returns-in-Ok c =
    hands-frame c.in-Ok.ensures (record { bytes = refl; place = refl })

-- `sub_self`: a part from any place to itself is empty, so that only its place tells a wrong one
pub returns-in-Err : goal.returns-in-Err
returns-in-Err c =
    hands-nothing _ c.in-Err.ensures
    (record { bytes = search (rules, sub_self); place = refl })
