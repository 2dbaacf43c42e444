-- `commands::nest::write_climate` meets its contract: the frame has the content of the row.
-- Assumes nothing.
use mathlib.Core.Path.{ap, ◌∙◌}
use Rattle.messages.specs.Paper.Content as content
use Rattle.messages.specs.Paper.Message.{climate}
use Rattle.messages.specs.Paper.Table.{content_of}
use Rattle.commands.proofs.Laws.NestWrites.{climate-payload, signed-bytes}
use Rattle.commands.proofs.Laws.Written.{built}
use Rattle.commands.proofs.nest.write_climate.Goals as goal

pub returns : goal.returns
unfolding content_of
returns c =
    built (climate c.args.temperature c.args.humidity) (content.response 0x0002 _) c.frame.result
    (ap (content.response 0x0002) (climate-payload c.args.temperature c.args.humidity (c.to_le_bytes-t.ensures ∙ signed-bytes c.args.temperature c.ranges.temperature) c.two-h.ensures))
    c.frame.ensures
