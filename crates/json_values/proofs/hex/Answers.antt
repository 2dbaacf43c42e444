-- `json_values::hex` meets its contract: the three writers' promises, one after the other.
-- Assumes nothing.
use Rattle.puts.proofs.Laws.Puts.{◌then◌}
use Rattle.json_values.proofs.hex.Goals as goal

pub returns : goal.returns
returns c =
    c.byte-first.ensures
    then c.hex-end.ensures
    then c.byte.ensures
