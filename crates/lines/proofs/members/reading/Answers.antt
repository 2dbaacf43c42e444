-- `lines::members::reading` meets its contract: the label, and then the value.
-- Assumes nothing.
use Rattle.puts.proofs.Laws.Puts.{◌then◌}
use Rattle.lines.proofs.members.reading.Goals as goal

pub returns : goal.returns
returns c =
    c.bytes-next.ensures
    then c.unsigned.ensures
