-- `nest::climate` meets its contract.
-- Assumes nothing.
use mathlib.Core.Path.{refl}
use native.Mathlib.Omega.{arith}
use Rattle.std.proofs.lemmas.Result.{err_from_is_err_and}
use Rattle.messages.specs.Paper.Message.{climate}
use Rattle.asked.specs.Paper.Answers.{beside}
use Rattle.shapes.specs.Paper.Shapes.{fields_of}
use Rattle.asked.proofs.Laws.Drafts.{drafted, no-draft, members_of}
use Rattle.asked.proofs.Laws.Slots.{slots_at, slotted}
use Rattle.asked.proofs.Laws.Casts.{to_word, cast_signed}
use Rattle.asked.proofs.Laws.Lift.{is_held, read-at}
use Rattle.asked.proofs.Laws.Shaped.{last, more, measuring, measuring-signed, said_row}
use Rattle.asked.proofs.Laws.Results.{both-are}
use Rattle.asked.proofs.nest.climate.Goals as goal

pub overflow_cast-result : goal.overflow_cast-result
overflow_cast-result c =
    cast_signed _ (is_held (read-at _ c.reading-temp.ensures (both-are _ _ c.both.ensures c.in_ok-temp.was).0))

pub overflow_cast-result-2 : goal.overflow_cast-result-2
overflow_cast-result-2 c =
    to_word _ (is_held (read-at _ c.reading-hum.ensures (both-are _ _ c.both.ensures c.in_ok-temp.was).1))

pub returns-in_err-temp : goal.returns-in_err-temp
unfolding slots_at slotted members_of fields_of beside
returns-in_err-temp c =
    let p = err_from_is_err_and c.from_residual.result c.from_residual.ensures.1 in
    rw (p.1, p.2) (no-draft 8 refl (λ e. absurd (omega arith)) _ (more _ _ _ _ (measuring-signed c.value.ensures 2 _ c.reading-temp.ensures) (last _ _ (measuring {m = 65535} (omega arith) c.value-2.ensures 1 _ c.reading-hum.ensures)) c.both.ensures) c.in_err-temp.was)

pub returns : goal.returns
unfolding slots_at slotted members_of fields_of beside
returns c =
    drafted 8 refl (λ e. absurd (omega arith)) _ (more _ _ _ _ (measuring-signed c.value.ensures 2 _ c.reading-temp.ensures) (last _ _ (measuring {m = 65535} (omega arith) c.value-2.ensures 1 _ c.reading-hum.ensures)) c.both.ensures) c.in_ok-temp.was
    (said_row (climate _ _) refl refl (omega arith) refl refl)
