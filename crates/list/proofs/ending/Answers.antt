-- `list::ending` meets its contract: one piece after the other.
-- Assumes nothing.
use Rattle.puts.proofs.Laws.Puts.{◌then◌, puts-as}
use Rattle.list.proofs.Laws.Written.{last_line_lem}
use Rattle.list.proofs.ending.Goals as goal

pub returns : goal.returns
returns c =
    puts-as (last_line_lem c.args.frames c.args.skipped) (c.bytes-a.ensures then c.whole-b.ensures then c.bytes-c.ensures then c.whole-d.ensures then c.bytes.ensures)
