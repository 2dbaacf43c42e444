-- `lines::homiq::id_and_type` meets its contract: the type is the first of what stands behind the id.
-- Assumes nothing.
use mathlib.Core.Path.{ap, ◌∙◌}
use lib.ListN.{length}
use Rattle.json_values.specs.Paper.Json.{chars}
use Rattle.messages.specs.Paper.Homiq.{field_at}
use Rattle.messages.proofs.Laws.HomiqLook.{field-bytes}
use Rattle.puts.proofs.Laws.Puts.{◌then◌, puts-as}
use Rattle.lines.proofs.Laws.Put.{last-put}
use Rattle.lines.specs.Work.Put.{commaed}
use Rattle.lines.proofs.homiq.id_and_type.Goals as goal

pub behind-requires : goal.behind-requires
unfolding field_at
behind-requires c = ap length (field-bytes 0 c.field-id.ensures)

pub returns : goal.returns
unfolding field_at commaed
returns c =
    let type = field-bytes 0 c.field-kind.ensures ∙ ap (field_at 0) c.behind.ensures in
    c.bytes-a.ensures
    then puts-as (field-bytes 0 c.field-id.ensures) c.bytes-b.ensures
    then last-put (c.bytes-c.ensures then puts-as (ap chars type) c.chars.ensures)
