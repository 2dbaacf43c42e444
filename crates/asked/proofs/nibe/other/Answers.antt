-- `nibe::other` meets its contract.
-- Assumes nothing.
use mathlib.Core.Path.{refl}
use native.Mathlib.Omega.{arith}
use Rattle.std.proofs.lemmas.Result.{err_from_is_err_and}
use Rattle.messages.specs.Paper.Message.{nibe}
use Rattle.asked.specs.Paper.Answers.{beside}
use Rattle.shapes.specs.Paper.Shapes.{fields_of}
use Rattle.asked.proofs.Laws.Drafts.{drafted, no-draft, members_of}
use Rattle.asked.proofs.Laws.Slots.{slots_at, slotted}
use Rattle.asked.proofs.Laws.Casts.{to-byte}
use Rattle.asked.proofs.Laws.Lift.{lifted, is_held, read-at}
use Rattle.asked.proofs.Laws.Shaped.{last, more, numbered, resized, said_row}
use Rattle.asked.proofs.Laws.Results.{both-are, bounded}
use Rattle.asked.proofs.nibe.other.Goals as goal

pub overflow_cast-result : goal.overflow_cast-result
overflow_cast-result c =
    to-byte _ (is_held (read-at _ c.whole-cmd.ensures (both-are _ _ c.both.ensures c.in_ok-cmd.was).0))

pub returns-in_err-cmd : goal.returns-in_err-cmd
unfolding slots_at slotted members_of fields_of beside
returns-in_err-cmd c =
    let p = err_from_is_err_and c.from_residual.result c.from_residual.ensures.1 in
    rw (p.1, p.2) (no-draft 18 refl (λ e. absurd (omega arith)) _ (more _ _ _ _ (numbered {m = 255} (omega arith) c.value.ensures _ c.whole-cmd.ensures) (last _ _ (lifted c.value-2.ensures (resized (omega (arith, c.well_formed)) c.hex-read.ensures.reads))) c.both.ensures) c.in_err-cmd.was)

pub returns : goal.returns
unfolding slots_at slotted members_of fields_of beside
returns c =
    drafted 18 refl (λ e. absurd (omega arith)) _ (more _ _ _ _ (numbered {m = 255} (omega arith) c.value.ensures _ c.whole-cmd.ensures) (last _ _ (lifted c.value-2.ensures (resized (omega (arith, c.well_formed)) c.hex-read.ensures.reads))) c.both.ensures) c.in_ok-cmd.was
    (said_row (nibe _ _) refl refl (omega (arith, bounded _ c.hex-read.ensures.len_in_bounds.0 (both-are _ _ c.both.ensures c.in_ok-cmd.was).1, c.hex-read.ensures.len_in_bounds.1)) refl refl)
