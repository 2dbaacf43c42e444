-- `host::frame_calls::bolsterweft_search` meets its contract: it is `frames::search`, case by case, and an unknown kind is refused like
-- any other.
-- Assumes nothing.
use Rattle.frames.proofs.Laws.Hands.{payload-there}
use Rattle.host.proofs.Laws.Spans.{spans}
use Rattle.host.proofs.Laws.Unknown.{search-alike}
use Rattle.host.proofs.frame_calls.bolsterweft_search.Goals as goal

pub overflow_sub-result : goal.overflow_sub-result
overflow_sub-result c = (payload-there c.search.ensures c.in-Ok.is).0

pub returns-in-Ok : goal.returns-in-Ok
returns-in-Ok c = rw (spans (payload-there c.search.ensures c.in-Ok.is).0) (search-alike c.kind_byte.ensures c.in-Ok.ensures)

pub returns-in-Err : goal.returns-in-Err
returns-in-Err c = rw c.refusal_number.ensures (search-alike c.kind_byte.ensures c.in-Err.ensures)
