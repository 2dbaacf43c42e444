-- `messages::nest::for_panel` meets its contract: a climate message alone has counts, and they are its own.
-- Assumes nothing.
use Rattle.messages.proofs.Laws.Responses.{pair-shown, pair-refused}
use Rattle.messages.proofs.nest.for_panel.Goals as goal

pub returns-in-Climate : goal.returns-in-Climate
returns-in-Climate c = pair-shown c.pair.result _ _ c.in-Climate.is (record { sfits = c.in-Climate.known_told-1-own.given.0.1 }) c.pair.ensures

pub returns-in-State : goal.returns-in-State
returns-in-State c = pair-refused (λ t h e. cc (c.in-State.is, e))

pub returns-in_default : goal.returns-in_default
returns-in_default c = pair-refused c.in_default.not-Climate
