-- `book::adding::put` meets its contract: the old pieces are parts of the book, and the new ones stand behind them.
-- Assumes nothing.
use mathlib.Core.Path.{ap}
use Prim.Native.Nat.{ℕ, ◌-◌}
use native.Mathlib.Omega.{arith}
use lib.ListN.{length}
use Rattle.puts.proofs.Laws.Puts.{◌then◌}
use Rattle.book.proofs.Laws.Added.{puts-added}
use Rattle.book.proofs.Laws.Entries.{counts-trailed}
use Rattle.book.proofs.adding.put.Goals as goal

pub overflow_sub-end : goal.overflow_sub-end
overflow_sub-end c = omega (arith, c.trailer_size.ensures, (counts-trailed c.requires.counts).room)

pub slice_bounds-bytes-end-2 : goal.slice_bounds-bytes-end-2
slice_bounds-bytes-end-2 c = omega (arith, c.trailer_size.ensures, (counts-trailed c.requires.counts).room)

pub returns : goal.returns
returns c =
    puts-added c.requires.counts (record { kind = c.args.kind; frame = c.args.frame.now }) _ _ (ap (λ (n : ℕ). length c.args.book.now - n) c.trailer_size.ensures) c.four-offset.ensures
    (c.bytes-a.ensures then c.put_entry-b.ensures then c.bytes-c.ensures then c.bytes-d.ensures then c.put_end.ensures)
