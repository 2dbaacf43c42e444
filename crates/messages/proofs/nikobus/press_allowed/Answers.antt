-- `messages::nikobus::press_allowed` meets its contract: its digits are tested.
-- Assumes nothing.
use mathlib.Core.Path.{refl}
use Rattle.messages.specs.Paper.Message.{press}
use Rattle.messages.proofs.Laws.Allowed.{only_if}
use Rattle.messages.specs.Paper.Says.{six}
use Rattle.messages.specs.Paper.Table.{content_of}
use Rattle.messages.specs.Work.Look.{look}
use Rattle.messages.proofs.nikobus.press_allowed.Goals as goal

pub returns : goal.returns
unfolding look content_of
returns c =
    only_if (press (six c.args.digits)) (λ p. p) (λ l. l) (λ l. refl) c.is_press.ensures c.standing.ensures
