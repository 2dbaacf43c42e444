-- `host_asked::bolsterweft_encode` meets its contract: it is `asked::encode`.
-- Assumes nothing.
use Rattle.host_asked.proofs.bolsterweft_encode.Goals as goal

pub returns : goal.returns
returns c = rw (c.counted.ensures.0, c.counted.ensures.1) c.encode-written.ensures
