-- `host_list::bolsterweft_list` meets its contract: it is `list::write`.
-- Assumes nothing.
use Rattle.host_list.proofs.bolsterweft_list.Goals as goal

pub returns : goal.returns
returns c = rw (c.counted.ensures.0, c.counted.ensures.1) c.write-listing.ensures
