-- `nibe::done` meets its contract.
-- Assumes nothing.
use mathlib.Core.Path.{refl}
use native.Mathlib.Omega.{arith}
use Rattle.std.proofs.lemmas.Result.{err_from_is_err_and}
use Rattle.messages.specs.Paper.Message.{done}
use Rattle.asked.specs.Paper.Answers.{beside}
use Rattle.shapes.specs.Paper.Shapes.{fields_of}
use Rattle.asked.proofs.Laws.Drafts.{drafted, no-draft, members_of}
use Rattle.asked.proofs.Laws.Slots.{slots_at, slotted}
use Rattle.asked.proofs.Laws.Lift.{lifted}
use Rattle.asked.proofs.Laws.Shaped.{last, said_row}
use Rattle.asked.proofs.nibe.done.Goals as goal

pub returns-in_err-ok : goal.returns-in_err-ok
unfolding slots_at slotted members_of fields_of beside
returns-in_err-ok c =
    let p = err_from_is_err_and c.from_residual.result c.from_residual.ensures.1 in
    rw (p.1, p.2) (no-draft 17 refl (λ e. absurd (omega arith)) _ (last _ _ (lifted c.value.ensures c.truth.ensures)) c.in_err-ok.was)

pub returns : goal.returns
unfolding slots_at slotted members_of fields_of beside
returns c =
    drafted 17 refl (λ e. absurd (omega arith)) _ (last _ _ (lifted c.value.ensures c.truth.ensures)) c.in_ok-ok.was
    (said_row (done _) refl refl (omega arith) refl refl)
