-- `builds::nest::put_frame` meets its contract: the five parts are put one behind the other, and the CRC is taken in three pieces.
-- Assumes nothing.
use Rattle.puts.proofs.Laws.Puts.{◌then◌, puts-as}
use Rattle.builds.proofs.Laws.Bytes.{nest-whole}
use Rattle.builds.proofs.nest.put_frame.Goals as goal

pub returns : goal.returns
returns c = puts-as (nest-whole c.args.preamble.now c.args.payload.now c.args.id _ _ _ _ _ _ _ c.two-id.ensures c.two-len.ensures c.new.ensures c.bytes.ensures c.bytes-2.ensures c.bytes-3.ensures c.two-crc.ensures)
    ((((c.bytes-at.ensures then c.bytes-at-2.ensures) then c.bytes-at-3.ensures) then c.bytes-at-4.ensures) then c.bytes-4.ensures)
