-- `messages::nikobus::pressed` meets its contract: the six characters, one by one.
-- Assumes nothing.
use mathlib.Core.List.{[], ◌∷◌}
use mathlib.Core.Path.{◌≡◌, refl}
use lib.ListN.{get_or}
use Rattle.messages.proofs.Laws.Choices.{by_length}
use Rattle.messages.proofs.nikobus.pressed.Goals as goal

pub returns : goal.returns
returns c =
    by_length 6 (λ d. get_or d 0 0 ∷ get_or d 1 0 ∷ get_or d 2 0 ∷ get_or d 3 0 ∷ get_or d 4 0 ∷ get_or d 5 0 ∷ [] ≡ d) (λ t. refl) c.args.d.now c.requires
