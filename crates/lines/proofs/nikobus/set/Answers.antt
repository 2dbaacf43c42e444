-- `lines::nikobus::set` meets its contract: one member after the other.
-- Assumes nothing.
use Rattle.puts.proofs.Laws.Puts.{◌then◌}
use Rattle.lines.specs.Paper.Line.{members}
use Rattle.lines.proofs.Laws.Put.{last-put}
use Rattle.lines.specs.Work.Put.{commaed, named}
use Rattle.lines.proofs.nikobus.set.Goals as goal

pub returns : goal.returns
unfolding named members commaed
returns c =
    c.number-a.ensures
    then c.shown_address-b.ensures
    then last-put c.values.ensures
