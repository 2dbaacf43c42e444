-- `lacks::has_kind` meets its contract.
-- Assumes nothing.
use Rattle.asked.proofs.Laws.Casts.{to-byte}
use Rattle.asked.proofs.Laws.Lacking.{no_kind, kind-known}
use Rattle.asked.proofs.Laws.Lift.{is_held}
use Rattle.asked.proofs.lacks.has_kind.Goals as goal

pub returns-in_default : goal.returns-in_default
returns-in_default c =
    no_kind c.value.ensures c.in_default.ensures

pub overflow_cast-kind : goal.overflow_cast-kind
overflow_cast-kind c =
    to-byte _ (is_held c.in-Ok.ensures)

pub returns : goal.returns
returns c =
    kind-known c.value.ensures c.in-Ok.ensures c.known.ensures
