-- `book::opening::opened` meets its contract: what ends as a book does and is filled with entries is one, and nothing else is.
-- Assumes nothing.
use mathlib.Core.Path.{subst}
use Prim.Native.Nat.{ℕ, ◌-◌}
use native.Mathlib.Omega.{arith}
use lib.ListN.{length}
use Rattle.digits.proofs.Laws.Tests.{told, untold}
use Rattle.book.specs.Work.Reading.{Fills}
use Rattle.book.proofs.Laws.Entries.{not-trailed, trailed-count, not-filled, opened}
use Rattle.book.proofs.Laws.Opening.{noted_in, not_noted}
use Rattle.book.proofs.opening.opened.Goals as goal

pub returns-then-not-trailed : goal.returns-then-not-trailed
returns-then-not-trailed c = not-trailed (untold c.trailed.ensures c.if-not-trailed.true)

pub count-count-requires : goal.count-count-requires
count-count-requires c = omega (arith, (told c.trailed.ensures c.if-not-trailed.false).1.room)

pub overflow_sub-end : goal.overflow_sub-end
overflow_sub-end c =
    let t = trailed-count c.count-count.ensures.0 c.count-count.ensures.1 (told c.trailed.ensures c.if-not-trailed.false) in
    omega (arith, t.room, c.trailer_size.ensures)

pub filled-requires : goal.filled-requires
filled-requires c =
    let t = trailed-count c.count-count.ensures.0 c.count-count.ensures.1 (told c.trailed.ensures c.if-not-trailed.false) in
    record { count_in_bounds = omega (arith, t.room, c.trailer_size.ensures); s_len_bound = t.small; count_bound = t.few }

pub returns-then-not-filled : goal.returns-then-not-filled
returns-then-not-filled c =
    let other = not_noted c.filled.ensures c.if-not-filled.true in
    not-filled c.count-count.ensures.0 c.count-count.ensures.1 (subst (λ (k : ℕ). Fills c.args.book.now c.count-count.result (length c.args.book.now - k) 0 0 → ⊥) c.trailer_size.ensures other)

pub returns : goal.returns
returns c =
    let t = trailed-count c.count-count.ensures.0 c.count-count.ensures.1 (told c.trailed.ensures c.if-not-trailed.false) in
    opened t c.trailer_size.ensures (noted_in c.filled.ensures c.if-not-filled.false)
