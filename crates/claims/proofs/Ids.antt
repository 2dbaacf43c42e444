-- What the successors of IDs come to.
-- Assumes nothing.
use Rattle.messages.proofs.Theorems as messages
use Rattle.claims.specs.Paper.Ids.{Ids}

pub ids : Ids
ids = record { next-is-id = messages.next-is-id; next-of-one = messages.next-of-one }
