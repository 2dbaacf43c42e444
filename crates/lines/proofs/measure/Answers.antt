-- `lines::measure` meets its contract: the place behind a line from the front of a room is its length.
-- Assumes nothing.
use mathlib.Core.Path.{refl}
use native.Mathlib.Omega.{arith}
use Rattle.lines.proofs.Laws.Next.{size-tried, never-unsure, none-measured}
use Rattle.lines.proofs.Laws.Types.{in-types}
use Rattle.lines.proofs.measure.Goals as goal

pub returns-in-Ok-At : goal.returns-in-Ok-At
returns-in-Ok-At c =
    size-tried c.in-Ok-At.field-0 c.in-Ok-At.ensures c.in-Ok-At.field-0-is (in-types c.args.map.now) refl (omega arith)

pub returns-in-Ok-Unsure : goal.returns-in-Ok-Unsure
returns-in-Ok-Unsure c = never-unsure c.in-Ok-Unsure.field-0 c.in-Ok-Unsure.ensures refl c.in-Ok-Unsure.field-0-is

pub returns-in-Err : goal.returns-in-Err
returns-in-Err c = none-measured c.in-Err.ensures
