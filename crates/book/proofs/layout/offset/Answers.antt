-- `book::layout::offset` meets its contract: four bytes for each offset before it, from where the trailer begins.
-- Assumes nothing.
use mathlib.Core.Path.{subst}
use Prim.Native.Nat.{ℕ, ◌+◌, ◌-◌, ◌*◌}
use lib.ListN.{length}
use Rattle.book.specs.Work.Reading.{NumberAt}
use Rattle.book.proofs.layout.offset.Goals as goal

pub returns : goal.returns
returns c =
    (c.four.ensures.0, subst (λ (n : ℕ). NumberAt c.args.book.now (length c.args.book.now - n + 4 * c.args.number) 4 c.four.result) c.trailer_size.ensures c.four.ensures.1)
