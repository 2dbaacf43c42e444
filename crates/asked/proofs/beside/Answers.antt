-- `beside` meets its contract.
-- Assumes nothing.
use Rattle.asked.specs.Work.Draft as draft
use Rattle.asked.proofs.Laws.Answered.{good-handed}
use Rattle.asked.proofs.beside.Goals as goal

pub returns-in-Ok : goal.returns-in-Ok
returns-in-Ok c = good-handed _ _ _ _ c.in-Ok.ensures c.handed.ensures

pub returns-in-Err : goal.returns-in-Err
returns-in-Err c = draft.refused c.in-Err.ensures
