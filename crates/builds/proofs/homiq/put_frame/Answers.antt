-- `builds::homiq::put_frame` meets its contract: the five parts are put one behind the other.
-- Assumes nothing.
use Rattle.puts.proofs.Laws.Puts.{◌then◌, puts-as}
use Rattle.builds.proofs.Laws.Bytes.{homiq-whole}
use Rattle.builds.proofs.homiq.put_frame.Goals as goal

pub returns : goal.returns
returns c = puts-as (homiq-whole c.args.payload.now _ c.crc.ensures)
    ((((c.bytes-at.ensures then c.bytes-at-2.ensures) then c.byte-at.ensures) then c.whole-at.ensures) then c.bytes.ensures)
