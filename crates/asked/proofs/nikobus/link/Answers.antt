-- `nikobus::link` meets its contract.
-- Assumes nothing.
use mathlib.Core.Path.{refl}
use native.Mathlib.Omega.{arith}
use Rattle.std.proofs.lemmas.Result.{err_from_is_err_and}
use Rattle.asked.proofs.Laws.Drafts.{drafted, no-draft, members_of}
use Rattle.asked.proofs.Laws.Slots.{slots_at, slotted}
use Rattle.asked.proofs.Laws.Lift.{lifted}
use Rattle.asked.proofs.Laws.Shaped.{last, resized, read-bytes, linked}
use Rattle.asked.proofs.nikobus.link.Goals as goal

pub returns-in_err-n : goal.returns-in_err-n
unfolding slots_at slotted members_of
returns-in_err-n c =
    let p = err_from_is_err_and c.from_residual.result c.from_residual.ensures.1 in
    rw (p.1, p.2) (no-draft 6 refl (λ e. absurd (omega arith)) _ (last _ _ (lifted c.value.ensures (resized refl c.hex.ensures.reads))) c.in_err-n.was)

pub returns : goal.returns
unfolding slots_at slotted members_of
returns c =
    drafted 6 refl (λ e. absurd (omega arith)) _ (last _ _ (lifted c.value.ensures (resized refl c.hex.ensures.reads))) c.in_ok-n.was
    (linked _ _ (read-bytes c.in_ok-n.ensures.reads) c.in_ok-n.ensures.len_in_bounds.0 (omega (arith, c.well_formed)) c.hex-2.ensures)
