-- `commands::nikobus::values` meets its contract: after each turn the bytes of two digits more stand in the room.
-- Assumes nothing.
use mathlib.Core.Path.{refl, ◌∙◌}
use mathlib.Core.Logic.{⊎_elim}
use native.Mathlib.Omega.{arith}
use lib.ListN.{length-set}
use Rattle.commands.proofs.Laws.NikobusWrites.{none_yet, one_more, odd-digits, too_many, no-pair, all_read}
use Rattle.commands.proofs.nikobus.values.Goals as goal

pub returns-then-digits-ne0 : goal.returns-then-digits-ne0
returns-then-digits-ne0 c = ⊎_elim (odd-digits _) (λ q. too_many _ q.1) c.then-digits-ne0.either

pub loop-i-init : goal.loop-i-init
loop-i-init c = (refl, none_yet _ _)

pub returns-in_err-room : goal.returns-in_err-room
returns-in_err-room c = rw c.from_residual.ensures (no-pair _ _ c.loop-i-test.true c.byte_of.ensures c.in_err-room.was)

pub loop-i-preserved : goal.loop-i-preserved
loop-i-preserved c = (
  length-set c.loop-i.room c.loop-i.i c.in_ok-room.field-0 ∙ c.loop-i.invariant.0,
  one_more _ _ _ _ (omega (arith, c.loop-i-test.true)) (omega (arith, c.loop-i.invariant.0, c.if-room-n.false, c.loop-i-test.true)) c.byte_of.ensures c.in_ok-room.was c.loop-i.invariant.1,
)

pub returns : goal.returns
returns c = all_read _ _ (omega (arith, c.if-digits-ne0.false)) c.loop-i.invariant.0 c.if-room-n.false (omega (arith, c.loop-i-test.false, c.loop-i.auto.i-end)) c.loop-i.invariant.1
