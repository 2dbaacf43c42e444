-- `lines::nest::climate` meets its contract: one member after the other.
-- Assumes nothing.
use mathlib.Core.Path.{ap}
use lib.Dec.{lit≤}
use lib.IntN.{ℤ}
use mir.Syntax.{w16, w32}
use Rattle.puts.proofs.Laws.Puts.{◌then◌, puts-as}
use Rattle.json_values.specs.Paper.Json.{reading}
use Rattle.json_values.proofs.Laws.Raws.{handed-fits, handed-back}
use Rattle.lines.specs.Paper.Line.{members}
use Rattle.lines.proofs.Laws.Put.{last-put}
use Rattle.lines.specs.Work.Put.{commaed, named}
use Rattle.lines.proofs.nest.climate.Goals as goal

pub overflow_cast-temperature : goal.overflow_cast-temperature
overflow_cast-temperature c = handed-fits w16 w32 (lit≤ tt) c.args.temperature c.ranges.temperature

pub returns : goal.returns
unfolding named members commaed
returns c =
    c.bytes-a.ensures
    then puts-as (ap (λ (z : ℤ). reading z 2) (handed-back w16 w32 (lit≤ tt) c.args.temperature c.ranges.temperature)) c.signed-b.ensures
    then last-put c.reading.ensures
