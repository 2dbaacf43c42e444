-- `book::layout::put_entry` meets its contract: the kind, the frame's length, and the frame.
-- Assumes nothing.
use mathlib.Core.List.{List, [], ◌∷◌, ◌++◌}
use mathlib.Core.Path.{ap, ◌∙◌}
use native.Mathlib.Omega.{arith}
use Rattle.puts.proofs.Laws.Puts.{◌then◌, puts-as}
use Prim.Native.Nat.{ℕ}
use Rattle.book.proofs.Laws.Pieces.{entry-laid}
use Rattle.book.proofs.layout.put_entry.Goals as goal

pub returns : goal.returns
returns c =
    puts-as (ap (λ (t : List ℕ). (c.args.kind ∷ []) ++ (t ++ c.args.frame.now)) c.two-size.ensures ∙ entry-laid c.args.kind c.args.frame.now (omega arith))
    (c.byte-a.ensures then c.bytes-b.ensures then c.bytes.ensures)
