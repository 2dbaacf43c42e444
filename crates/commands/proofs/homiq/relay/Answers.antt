-- `commands::homiq::relay` meets its contract: the fields are put one behind the other.
-- Assumes nothing.
use Rattle.puts.proofs.Laws.Puts.{◌then◌}
use Rattle.commands.proofs.homiq.relay.Goals as goal

pub returns : goal.returns
returns c = ((((c.put_field-at.ensures then c.put_field-at-2.ensures) then c.put_field-at-3.ensures) then c.put_field-at-4.ensures) then c.put_field-at-5.ensures) then c.byte.ensures
