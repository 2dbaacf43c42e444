-- `host_lines::bolsterweft_line` meets its contract: it is `lines::write`, and an unknown kind is refused like any other.
-- Assumes nothing.
use Rattle.host_lines.proofs.Laws.Unknown.{line-alike}
use Rattle.host_lines.proofs.bolsterweft_line.Goals as goal

pub returns : goal.returns
returns c =
    rw (c.counted.ensures.0, c.counted.ensures.1)
    (line-alike c.kind_byte.ensures c.write.ensures)
