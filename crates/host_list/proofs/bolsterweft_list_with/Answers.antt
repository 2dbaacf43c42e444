-- `host_list::bolsterweft_list_with` meets its contract: it is `list::write_mapped`.
-- Assumes nothing.
use Rattle.host_list.proofs.bolsterweft_list_with.Goals as goal

pub returns : goal.returns
returns c = rw (c.counted.ensures.0, c.counted.ensures.1) c.write_mapped-by_map.ensures
