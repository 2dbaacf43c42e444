-- `nibe::reply` meets its contract.
-- Assumes nothing.
use mathlib.Core.Path.{refl}
use native.Mathlib.Omega.{arith}
use Rattle.std.proofs.lemmas.Result.{err_from_is_err_and}
use Rattle.messages.specs.Paper.Message.{reply}
use Rattle.asked.specs.Paper.Answers.{beside}
use Rattle.shapes.specs.Paper.Shapes.{fields_of}
use Rattle.asked.proofs.Laws.Drafts.{drafted, no-draft, members_of}
use Rattle.asked.proofs.Laws.Slots.{slots_at, slotted}
use Rattle.asked.proofs.Laws.Shaped.{said_row}
use Rattle.asked.proofs.nibe.reply.Goals as goal

pub returns-in_err-v : goal.returns-in_err-v
unfolding slots_at slotted members_of fields_of beside
returns-in_err-v c =
    let p = err_from_is_err_and c.from_residual.result c.from_residual.ensures.1 in
    rw (p.1, p.2) (no-draft 15 refl (λ e. absurd (omega arith)) _ (c.valued.ensures) c.in_err-v.was)

pub returns : goal.returns
unfolding slots_at slotted members_of fields_of beside
returns c =
    drafted 15 refl (λ e. absurd (omega arith)) _ (c.valued.ensures) c.in_ok-v.was
    (said_row (reply _ _ _) refl refl (omega arith) refl refl)
