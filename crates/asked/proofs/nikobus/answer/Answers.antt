-- `nikobus::answer` meets its contract.
-- Assumes nothing.
use mathlib.Core.Path.{refl}
use native.Mathlib.Omega.{arith}
use Rattle.std.proofs.lemmas.Result.{err_from_is_err_and}
use Rattle.messages.specs.Paper.Message.{answer}
use Rattle.messages.specs.declared.nikobus.Nikobus.TheVariants.{Answer}
use Rattle.asked.specs.Paper.Answers.{beside}
use Rattle.shapes.specs.Paper.Shapes.{fields_of}
use Rattle.asked.proofs.Laws.Drafts.{drafted, no-draft, members_of}
use Rattle.asked.proofs.Laws.Slots.{slots_at, slotted}
use Rattle.asked.proofs.Laws.Casts.{to-byte}
use Rattle.asked.proofs.Laws.Lift.{lifted, is_held, read-at}
use Rattle.asked.proofs.Laws.Shaped.{last, more, numbered, said_row, fixed}
use Rattle.asked.proofs.Laws.Results.{both-are}
use Rattle.asked.proofs.nikobus.answer.Goals as goal

pub overflow_cast-result : goal.overflow_cast-result
overflow_cast-result c =
    to-byte _ (is_held (read-at _ c.whole-third.ensures (both-are _ _ c.both.ensures (both-are _ _ c.both-2.ensures c.in_ok-addr.was).1).0))

pub returns-in_err-addr : goal.returns-in_err-addr
unfolding slots_at slotted members_of fields_of beside
returns-in_err-addr c =
    let p = err_from_is_err_and c.from_residual.result c.from_residual.ensures.1 in
    rw (p.1, p.2) (no-draft 3 refl (λ e. absurd (omega arith)) _ (more _ _ _ _ (lifted c.value.ensures c.address-addr.ensures) (more _ _ _ _ (numbered {m = 255} (omega arith) c.value-2.ensures _ c.whole-third.ensures) (last _ _ (lifted c.value-3.ensures c.outputs-out.ensures)) c.both.ensures) c.both-2.ensures) c.in_err-addr.was)

pub returns : goal.returns
unfolding slots_at slotted members_of fields_of beside
returns c =
    drafted 3 refl (λ e. absurd (omega arith)) _ (more _ _ _ _ (lifted c.value.ensures c.address-addr.ensures) (more _ _ _ _ (numbered {m = 255} (omega arith) c.value-2.ensures _ c.whole-third.ensures) (last _ _ (lifted c.value-3.ensures c.outputs-out.ensures)) c.both.ensures) c.both-2.ensures) c.in_ok-addr.was
    (said_row (answer _ _ _) refl refl (omega arith) (fixed (Answer _ _ _) refl _) refl)
