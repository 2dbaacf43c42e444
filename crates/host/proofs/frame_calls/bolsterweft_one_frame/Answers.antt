-- `host::frame_calls::bolsterweft_one_frame` meets its contract: it is `frames::one_frame`, case by case, and an unknown kind is refused
-- like any other.
-- Assumes nothing.
use Rattle.host.proofs.Laws.Spans.{spans, payload-in}
use Rattle.host.proofs.Laws.Unknown.{whole-alike}
use Rattle.host.proofs.frame_calls.bolsterweft_one_frame.Goals as goal

pub overflow_sub-result : goal.overflow_sub-result
overflow_sub-result c = payload-in c.in-Ok.ensures

pub returns-in-Ok : goal.returns-in-Ok
returns-in-Ok c = rw (spans (payload-in c.in-Ok.ensures)) (whole-alike c.kind_byte.ensures c.in-Ok.ensures)

pub returns-in-Err : goal.returns-in-Err
returns-in-Err c = rw c.refusal_number.ensures (whole-alike c.kind_byte.ensures c.in-Err.ensures)
