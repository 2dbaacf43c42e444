-- `json_values::number` meets its contract: a room of 12 is enough for any text.
-- Assumes nothing.
use mathlib.Core.Path.{refl}
use native.Mathlib.Omega.{arith}
use Rattle.puts.proofs.Laws.Puts.{puts-as}
use Rattle.json_values.proofs.Laws.Raws.{text-within, text-front, never-refused}
use Rattle.json_values.proofs.number.Goals as goal

pub slice_bounds-bytes-end : goal.slice_bounds-bytes-end
slice_bounds-bytes-end c =
    omega (arith, text-within c.args.raw c.args.decimals c.ranges.raw c.requires.0 c.requires.1 _ _ _ refl c.write.ensures _ c.in-Ok.is)

pub returns-in-Ok : goal.returns-in-Ok
returns-in-Ok c =
    puts-as (text-front c.args.raw c.args.decimals c.ranges.raw c.requires.0 c.requires.1 _ _ _ refl c.write.ensures _ c.in-Ok.is) c.bytes.ensures

pub returns-in-Err : goal.returns-in-Err
returns-in-Err c =
    absurd (never-refused c.args.raw c.args.decimals c.ranges.raw c.requires.0 c.requires.1 _ _ _ refl c.write.ensures _ c.in-Err.is)
