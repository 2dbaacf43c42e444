-- `numbers::text::put_sign` meets its contract: a minus, or nothing.
-- Assumes nothing.
use mathlib.Core.Path.{sym, ap}
use native.Mathlib.Omega.{arith}
use Rattle.puts.proofs.Laws.Puts.{none, puts-as}
use Rattle.numbers.specs.Paper.Text.{sign}
use Rattle.numbers.proofs.text.put_sign.Goals as goal

pub returns-then-minus : goal.returns-then-minus
returns-then-minus c = puts-as (ap sign (sym c.if-minus.true)) c.byte.ensures

pub returns : goal.returns
returns c = puts-as (ap sign (sym c.if-minus.false)) (none _ _ (omega (arith, c.well_formed)) (omega arith))
