-- `host::frame_calls::bolsterweft_why` meets its contract: it is `frames::why`, case by case, and an unknown kind is refused like any other.
-- Assumes nothing.
use Rattle.host.proofs.Laws.Unknown.{why-alike}
use Rattle.host.proofs.Laws.Why.{none-judged, judged-as, refused_as}
use Rattle.host.proofs.frame_calls.bolsterweft_why.Goals as goal

pub returns-in-Ok-None : goal.returns-in-Ok-None
returns-in-Ok-None c = why-alike c.kind_byte.ensures (none-judged c.in-Ok-None.ensures c.in-Ok-None.field-0-is)

pub returns-in-Ok-Some : goal.returns-in-Ok-Some
returns-in-Ok-Some c = why-alike c.kind_byte.ensures (judged-as c.in-Ok-Some.ensures c.in-Ok-Some.field-0-is c.test_number.ensures)

pub returns-in-Err : goal.returns-in-Err
returns-in-Err c = rw c.refusal_number.ensures (why-alike c.kind_byte.ensures (refused_as c.in-Err.why c.in-Err.ensures))
