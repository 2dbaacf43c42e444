-- `lines::nikobus::link` meets its contract: one piece after the other.
-- Assumes nothing.
use Rattle.puts.proofs.Laws.Puts.{◌then◌}
use Rattle.lines.proofs.nikobus.link.Goals as goal

pub returns : goal.returns
returns c =
    c.bytes-a.ensures
    then c.bytes-b.ensures
    then c.byte.ensures
