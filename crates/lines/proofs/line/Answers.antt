-- `lines::line` meets its contract: one piece after the other.
-- Assumes nothing.
use Rattle.puts.proofs.Laws.Puts.{◌then◌}
use Rattle.lines.specs.Work.Put.{put}
use Rattle.lines.proofs.line.Goals as goal

pub returns : goal.returns
unfolding put
returns c =
    c.bytes-a.ensures
    then c.whole-b.ensures
    then c.bytes-c.ensures
    then c.whole-d.ensures
    then c.bytes-e.ensures
    then c.name_and_members-f.ensures
    then c.bytes.ensures
