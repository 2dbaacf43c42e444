-- `nibe::ask` meets its contract.
-- Assumes nothing.
use mathlib.Core.Path.{refl}
use native.Mathlib.Omega.{arith}
use Rattle.std.proofs.lemmas.Result.{err_from_is_err_and}
use Rattle.messages.specs.Paper.Message.{ask}
use Rattle.asked.specs.Paper.Answers.{beside}
use Rattle.shapes.specs.Paper.Shapes.{fields_of}
use Rattle.asked.proofs.Laws.Drafts.{drafted, no-draft, members_of}
use Rattle.asked.proofs.Laws.Slots.{slots_at, slotted}
use Rattle.asked.proofs.Laws.Casts.{to_word}
use Rattle.asked.proofs.Laws.Lift.{is_held}
use Rattle.asked.proofs.Laws.Shaped.{last, numbered, said_row}
use Rattle.asked.proofs.nibe.ask.Goals as goal

pub overflow_cast-result : goal.overflow_cast-result
overflow_cast-result c =
    to_word _ (is_held c.in_ok-reg.ensures)

pub returns-in_err-reg : goal.returns-in_err-reg
unfolding slots_at slotted members_of fields_of beside
returns-in_err-reg c =
    let p = err_from_is_err_and c.from_residual.result c.from_residual.ensures.1 in
    rw (p.1, p.2) (no-draft 14 refl (λ e. absurd (omega arith)) _ (last _ _ (numbered {m = 65535} (omega arith) c.value.ensures _ c.whole.ensures)) c.in_err-reg.was)

pub returns : goal.returns
unfolding slots_at slotted members_of fields_of beside
returns c =
    drafted 14 refl (λ e. absurd (omega arith)) _ (last _ _ (numbered {m = 65535} (omega arith) c.value.ensures _ c.whole.ensures)) c.in_ok-reg.was
    (said_row (ask _) refl refl (omega arith) refl refl)
