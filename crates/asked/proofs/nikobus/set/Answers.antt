-- `nikobus::set` meets its contract.
-- Assumes nothing.
use mathlib.Core.Path.{refl}
use native.Mathlib.Omega.{arith}
use Rattle.std.proofs.lemmas.Result.{err_from_is_err_and}
use Rattle.messages.specs.Paper.Message.{set}
use Rattle.messages.specs.declared.nikobus.Nikobus.TheVariants.{Set}
use Rattle.asked.specs.Paper.Answers.{beside}
use Rattle.shapes.specs.Paper.Shapes.{fields_of}
use Rattle.asked.proofs.Laws.Drafts.{drafted, no-draft, members_of}
use Rattle.asked.proofs.Laws.Slots.{slots_at, slotted}
use Rattle.asked.proofs.Laws.Casts.{to-byte}
use Rattle.asked.proofs.Laws.Lift.{lifted, is_held, read-at}
use Rattle.asked.proofs.Laws.Shaped.{last, more, numbered, said_row, fixed}
use Rattle.asked.proofs.Laws.Results.{both-are}
use Rattle.asked.proofs.nikobus.set.Goals as goal

pub overflow_cast-result : goal.overflow_cast-result
overflow_cast-result c =
    to-byte _ (is_held (read-at _ c.whole-group.ensures (both-are _ _ c.both-2.ensures c.in_ok-group.was).0))

pub returns-in_err-group : goal.returns-in_err-group
unfolding slots_at slotted members_of fields_of beside
returns-in_err-group c =
    let p = err_from_is_err_and c.from_residual.result c.from_residual.ensures.1 in
    rw (p.1, p.2) (no-draft 2 refl (λ e. absurd (omega arith)) _ (more _ _ _ _ (numbered {m = 255} (omega arith) c.value.ensures _ c.whole-group.ensures) (more _ _ _ _ (lifted c.value-2.ensures c.address-addr.ensures) (last _ _ (lifted c.value-3.ensures c.outputs-out.ensures)) c.both.ensures) c.both-2.ensures) c.in_err-group.was)

pub returns : goal.returns
unfolding slots_at slotted members_of fields_of beside
returns c =
    drafted 2 refl (λ e. absurd (omega arith)) _ (more _ _ _ _ (numbered {m = 255} (omega arith) c.value.ensures _ c.whole-group.ensures) (more _ _ _ _ (lifted c.value-2.ensures c.address-addr.ensures) (last _ _ (lifted c.value-3.ensures c.outputs-out.ensures)) c.both.ensures) c.both-2.ensures) c.in_ok-group.was
    (said_row (set _ _ _) refl refl (omega arith) (fixed (Set _ _ _) refl _) refl)
