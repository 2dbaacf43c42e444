-- `rows::row` meets its contract.
-- Assumes nothing.
use Rattle.asked.proofs.Laws.Casts.{to-byte}
use Rattle.asked.proofs.Laws.Heads.{no-kind-read, no-msg-read, row_read}
use Rattle.asked.proofs.Laws.Lift.{is_held}
use Rattle.asked.proofs.rows.row.Goals as goal

pub returns-in_default : goal.returns-in_default
returns-in_default c =
    no-kind-read c.value.ensures c.in_default.ensures

pub returns-in_default-chars : goal.returns-in_default-chars
returns-in_default-chars c =
    no-msg-read c.value-2.ensures c.in_default-chars.ensures.reads

pub overflow_cast-kind : goal.overflow_cast-kind
overflow_cast-kind c =
    to-byte _ (is_held c.in-Ok.ensures)

pub returns : goal.returns
returns c =
    row_read c.chars.new.room c.in-Ok-chars.n c.value.ensures c.in-Ok.ensures c.value-2.ensures c.in-Ok-chars.ensures.reads c.named.ensures
