-- `book::layout::head_at` meets its contract: the kind in one byte, and the length in two.
-- Assumes nothing.
use mathlib.Core.Path.{refl}
use native.Mathlib.Omega.{arith}
use Rattle.book.proofs.Laws.Reading.{byte_at, heads}
use Rattle.book.proofs.layout.head_at.Goals as goal

pub returns : goal.returns
returns c =
    let kind = byte_at c.args.book.now c.args.at (record { each = λ i. (c.type_inv.book i).fits }) (omega (arith, c.requires.at_in_bounds)) in
    heads refl (c.type_inv.book c.args.at).fits c.two.ensures.0 refl kind c.two.ensures.1
