-- `messages::nikobus::is_press` meets its contract: by the length, and then digit by digit.
-- Assumes nothing.
use Rattle.messages.proofs.Laws.Given.{tells-press}
use Rattle.messages.proofs.Laws.Telling.{unequal}
use Rattle.messages.proofs.nikobus.is_press.Goals as goal

pub returns-then-digits-eq6 : goal.returns-then-digits-eq6
returns-then-digits-eq6 c = tells-press _ c.if-digits-eq6.true c.all_digits.ensures

pub returns-else-digits-eq6 : goal.returns-else-digits-eq6
returns-else-digits-eq6 c = unequal _ _ c.if-digits-eq6.false (λ x. x.0)
