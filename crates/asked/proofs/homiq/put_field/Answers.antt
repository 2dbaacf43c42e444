-- `homiq::put_field` meets its contract.
-- Assumes nothing.
use Rattle.puts.proofs.Laws.Puts.{◌then◌}
use Rattle.asked.proofs.homiq.put_field.Goals as goal

pub returns : goal.returns
returns c =
    c.bytes-end.ensures then c.byte.ensures
