-- `nest::command` meets its contract.
-- Assumes nothing.
use mathlib.Core.Path.{refl}
use native.Mathlib.Omega.{arith}
use Rattle.std.proofs.lemmas.Result.{err_from_is_err_and}
use Rattle.messages.specs.Paper.Message.{command}
use Rattle.asked.specs.Paper.Answers.{beside}
use Rattle.shapes.specs.Paper.Shapes.{fields_of}
use Rattle.asked.proofs.Laws.Drafts.{drafted, no-draft, members_of}
use Rattle.asked.proofs.Laws.Slots.{slots_at, slotted}
use Rattle.asked.proofs.Laws.Casts.{to_word}
use Rattle.asked.proofs.Laws.Lift.{lifted, is_held, read-at}
use Rattle.asked.proofs.Laws.Shaped.{last, more, numbered, resized, said_row}
use Rattle.asked.proofs.Laws.Results.{both-are, bounded}
use Rattle.asked.proofs.nest.command.Goals as goal

pub overflow_cast-result : goal.overflow_cast-result
overflow_cast-result c =
    to_word _ (is_held (read-at _ c.whole-id.ensures (both-are _ _ c.both.ensures c.in_ok-id.was).0))

pub returns-in_err-id : goal.returns-in_err-id
unfolding slots_at slotted members_of fields_of beside
returns-in_err-id c =
    let p = err_from_is_err_and c.from_residual.result c.from_residual.ensures.1 in
    rw (p.1, p.2) (no-draft 7 refl (λ e. absurd (omega arith)) _ (more _ _ _ _ (numbered {m = 65535} (omega arith) c.value.ensures _ c.whole-id.ensures) (last _ _ (lifted c.value-2.ensures (resized (omega (arith, c.well_formed)) c.hex-read.ensures.reads))) c.both.ensures) c.in_err-id.was)

pub returns : goal.returns
unfolding slots_at slotted members_of fields_of beside
returns c =
    drafted 7 refl (λ e. absurd (omega arith)) _ (more _ _ _ _ (numbered {m = 65535} (omega arith) c.value.ensures _ c.whole-id.ensures) (last _ _ (lifted c.value-2.ensures (resized (omega (arith, c.well_formed)) c.hex-read.ensures.reads))) c.both.ensures) c.in_ok-id.was
    (said_row (command _ _) refl refl (omega (arith, bounded _ c.hex-read.ensures.len_in_bounds.0 (both-are _ _ c.both.ensures c.in_ok-id.was).1, c.hex-read.ensures.len_in_bounds.1)) refl refl)
