-- `nest::state` meets its contract.
-- Assumes nothing.
use mathlib.Core.Path.{refl, sym, ◌∙◌}
use native.Mathlib.Omega.{arith}
use Rattle.std.proofs.lemmas.Result.{err_from_is_err_and}
use Rattle.digits.proofs.Laws.Tests.{told, untold}
use Rattle.asked.proofs.Laws.Lift.{lifted, is_held, read-at, reason-at}
use Rattle.asked.proofs.Laws.Results.{both-are, firm-is, bounded}
use Rattle.asked.proofs.Laws.Shaped.{resized}
use Rattle.asked.proofs.Laws.States.{agreed, three, volts-unread, data-unread, agree-state, disagree-state}
use Rattle.asked.proofs.nest.state.Goals as goal

pub returns-in_err-vin : goal.returns-in_err-vin
returns-in_err-vin c =
    let p = err_from_is_err_and c.from_residual.result c.from_residual.ensures.1 in
    rw (p.1, p.2) (volts-unread _ (three _ _ _ c.value.ensures c.reading-vin.ensures c.value-2.ensures c.reading-vop.ensures c.value-3.ensures c.reading-vbat.ensures c.both.ensures c.both-volts.ensures) c.firm.ensures c.in_err-vin.was)

pub returns-in_err-len : goal.returns-in_err-len
returns-in_err-len c =
    let p = err_from_is_err_and c.from_residual-in_err-len.result c.from_residual-in_err-len.ensures.1 in
    rw (p.1, p.2) (data-unread
    (lifted c.value-4.ensures (resized {b = 8192} (omega (arith, c.hex-arg-2-1.given)) (reason-at _ c.hex-read.ensures.reads c.in_err-len.was))))

pub returns-then-not-agree : goal.returns-then-not-agree
returns-then-not-agree c =
    let (x, q) = both-are _ _ c.both-volts.ensures (firm-is _ (sym c.firm.ensures ∙ c.in_ok-vin.was)) in
    let (y, z) = both-are _ _ c.both.ensures q in
    let d = agreed c.hex-read.new.room c.in_ok-len.len (is_held (read-at _ c.reading-vin.ensures x)) (is_held (read-at _ c.reading-vop.ensures y)) (is_held (read-at _ c.reading-vbat.ensures z)) c.agree.ensures in
    disagree-state _ (three _ _ _ c.value.ensures c.reading-vin.ensures c.value-2.ensures c.reading-vop.ensures c.value-3.ensures c.reading-vbat.ensures c.both.ensures c.both-volts.ensures) c.firm.ensures c.in_ok-vin.was (lifted c.value-4.ensures (resized {b = 8192} (omega (arith, c.hex-arg-2-1.given)) (read-at _ c.hex-read.ensures.reads c.in_ok-len.was))) (untold d c.if-not-agree.true)

pub returns : goal.returns
returns c =
    let (x, q) = both-are _ _ c.both-volts.ensures (firm-is _ (sym c.firm.ensures ∙ c.in_ok-vin.was)) in
    let (y, z) = both-are _ _ c.both.ensures q in
    let d = agreed c.hex-read.new.room c.in_ok-len.len (is_held (read-at _ c.reading-vin.ensures x)) (is_held (read-at _ c.reading-vop.ensures y)) (is_held (read-at _ c.reading-vbat.ensures z)) c.agree.ensures in
    agree-state _ (three _ _ _ c.value.ensures c.reading-vin.ensures c.value-2.ensures c.reading-vop.ensures c.value-3.ensures c.reading-vbat.ensures c.both.ensures c.both-volts.ensures) c.firm.ensures c.in_ok-vin.was (omega (arith, bounded _ c.hex-read.ensures.len_in_bounds.0 c.in_ok-len.was, c.hex-read.ensures.len_in_bounds.1))
    (lifted c.value-4.ensures (resized {b = 8192} (omega (arith, c.hex-arg-2-1.given)) (read-at _ c.hex-read.ensures.reads c.in_ok-len.was))) (told d c.if-not-agree.false) refl refl
