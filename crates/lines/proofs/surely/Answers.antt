-- `lines::surely` meets its contract: the bound tells.
-- Assumes nothing.
use mathlib.Core.Bool.{true≢false}
use mathlib.Core.Path.{sym, ◌∙◌}
use Rattle.lines.proofs.Laws.Next.{by-no-sheet, by-a-sheet}
use Rattle.lines.proofs.surely.Goals as goal

pub returns-then-sure : goal.returns-then-sure
returns-then-sure c = record { may-put = λ e. absurd (true≢false (sym c.if-sure.true ∙ e)) }

pub returns-then-bytes-lt-MOST : goal.returns-then-bytes-lt-MOST
returns-then-bytes-lt-MOST c = record { may-put = c.if-sure.false }

pub returns-then-map-eq0 : goal.returns-then-map-eq0
returns-then-map-eq0 c =
    by-no-sheet c.args.map.now c.if-map-eq0.true c.if-sure.false c.if-bytes-lt-MOST.false

pub returns : goal.returns
returns c =
    by-a-sheet c.args.map.now c.if-map-eq0.false c.if-sure.false c.if-bytes-lt-MOST.false
