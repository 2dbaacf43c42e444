-- `homiq::put_end` meets its contract.
-- Assumes nothing.
use Rattle.puts.proofs.Laws.Puts.{◌then◌}
use Rattle.asked.proofs.homiq.put_end.Goals as goal

pub returns : goal.returns
returns c = c.whole-a.ensures
    then (c.byte-b.ensures then c.byte.ensures)
