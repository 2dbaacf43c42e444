-- `lines::nikobus::press` meets its contract: one member after the other.
-- Assumes nothing.
use Rattle.lines.specs.Paper.Line.{members}
use Rattle.lines.proofs.Laws.Put.{last-put}
use Rattle.lines.specs.Work.Put.{commaed, named}
use Rattle.lines.proofs.nikobus.press.Goals as goal

pub returns : goal.returns
unfolding named members commaed
returns c = last-put c.chars.ensures
