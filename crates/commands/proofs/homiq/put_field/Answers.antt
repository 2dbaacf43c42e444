-- `commands::homiq::put_field` meets its contract: the field, and then `;`.
-- Assumes nothing.
use Rattle.messages.proofs.Laws.HomiqLook.{field-bytes}
use Rattle.puts.proofs.Laws.Puts.{◌then◌, puts-as}
use Rattle.commands.proofs.homiq.put_field.Goals as goal

pub returns : goal.returns
returns c = puts-as (field-bytes _ c.field.ensures) c.bytes-next.ensures then c.byte.ensures
