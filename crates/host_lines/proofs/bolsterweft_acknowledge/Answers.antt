-- `host_lines::bolsterweft_acknowledge` meets its contract: it is `commands::acknowledge`.
-- Assumes nothing.
use Rattle.host_lines.proofs.bolsterweft_acknowledge.Goals as goal

pub returns : goal.returns
returns c = rw (c.counted.ensures.0, c.counted.ensures.1) c.acknowledge-acknowledgement.ensures
