-- `host_lines::next_mapped` meets its contract: it is `lines::next` at the room's front, case by case, and an unknown kind
-- is refused like any other.
-- Assumes nothing.
use Rattle.host_lines.proofs.Laws.Unknown.{next-alike}
use Rattle.host_lines.proofs.next_mapped.Goals as goal

pub returns-in-Ok : goal.returns-in-Ok
returns-in-Ok c = next-alike c.kind_byte.ensures c.in-Ok.ensures

pub returns-in-Err : goal.returns-in-Err
returns-in-Err c = rw c.refusal_number.ensures (next-alike c.kind_byte.ensures c.in-Err.ensures)
