-- `nikobus::press` meets its contract.
-- Assumes nothing.
use mathlib.Core.Path.{refl}
use native.Mathlib.Omega.{arith}
use Rattle.std.proofs.lemmas.Result.{err_from_is_err_and}
use Rattle.messages.specs.Paper.Message.{press}
use Rattle.messages.specs.declared.nikobus.Nikobus.TheVariants.{Press}
use Rattle.asked.specs.Paper.Answers.{beside}
use Rattle.shapes.specs.Paper.Shapes.{fields_of}
use Rattle.asked.proofs.Laws.Drafts.{drafted, no-draft, members_of}
use Rattle.asked.proofs.Laws.Slots.{slots_at, slotted}
use Rattle.asked.proofs.Laws.Lift.{lifted}
use Rattle.asked.proofs.Laws.Shaped.{last, said_row, fixed}
use Rattle.asked.proofs.nikobus.press.Goals as goal

pub returns-in_err-addr : goal.returns-in_err-addr
unfolding slots_at slotted members_of fields_of beside
returns-in_err-addr c =
    let p = err_from_is_err_and c.from_residual.result c.from_residual.ensures.1 in
    rw (p.1, p.2) (no-draft 4 refl (λ e. absurd (omega arith)) _ (last _ _ (lifted c.value.ensures c.six_digits.ensures)) c.in_err-addr.was)

pub returns : goal.returns
unfolding slots_at slotted members_of fields_of beside
returns c =
    drafted 4 refl (λ e. absurd (omega arith)) _ (last _ _ (lifted c.value.ensures c.six_digits.ensures)) c.in_ok-addr.was
    (said_row (press _) refl refl (omega arith) (fixed (Press _) refl _) refl)
