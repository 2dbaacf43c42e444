-- `messages::homiq::next_id` meets its contract: what is no ID is refused, and the sum is taken as in `next_id`.
-- Assumes nothing.
use mathlib.Core.Path.{refl}
use Rattle.messages.proofs.Laws.NextId.{next-refused, next-right}
use Rattle.messages.proofs.homiq.next_id.Goals as goal

pub returns-then-id-gt-LAST_ID : goal.returns-then-id-gt-LAST_ID
returns-then-id-gt-LAST_ID c = next-refused c.if-id-gt-LAST_ID.true

pub returns : goal.returns
returns c = next-right c.if-id-gt-LAST_ID.false refl
