-- `frames::one_of_kind` meets its contract: the frame at the front is all of it, or it is none.
-- Assumes nothing.
use Rattle.frames.proofs.Laws.OneFrame.{whole-none, whole-other, whole_is}
use Rattle.frames.proofs.one_of_kind.Goals as goal

pub returns-in_default : goal.returns-in_default
returns-in_default c = whole-none _ _ c.in_default.ensures

pub returns-then-frame-s : goal.returns-then-frame-s
returns-then-frame-s c = whole-other _ _ c.in-Ok.ensures c.if-frame-s.true

pub returns : goal.returns
returns c = whole_is _ _ c.in-Ok.ensures c.if-frame-s.false
