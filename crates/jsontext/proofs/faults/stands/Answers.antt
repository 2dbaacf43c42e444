-- `faults::stands` meets its contract.
-- Assumes nothing.
use Rattle.jsontext.proofs.Laws.Faults.{past_end, that-byte}
use Rattle.jsontext.proofs.faults.stands.Goals as goal

pub returns-then-s-p : goal.returns-then-s-p
returns-then-s-p c = past_end _ _ _ c.if-s-p.true

pub returns : goal.returns
returns c = that-byte _ _ _ c.if-s-p.false
