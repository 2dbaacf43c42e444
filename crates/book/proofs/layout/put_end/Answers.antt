-- `book::layout::put_end` meets its contract: the count, and then the distance back.
-- Assumes nothing.
use mathlib.Core.List.{List, ◌++◌}
use mathlib.Core.Path.{ap, ap₂, ◌∙◌}
use Rattle.digits.specs.Paper.LowFirst.{low_byte_first}
use Rattle.puts.proofs.Laws.Puts.{◌then◌, puts-as}
use Prim.Native.Nat.{ℕ}
use Rattle.book.proofs.layout.put_end.Goals as goal

pub returns : goal.returns
returns c =
    puts-as (ap₂ (λ (x y : List ℕ). x ++ y) c.two-counted.ensures (c.four-back.ensures ∙ ap (low_byte_first 4) c.trailer_size.ensures))
    (c.bytes-a.ensures then c.bytes.ensures)
