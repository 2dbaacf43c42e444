-- `layouts::homiq::crc` meets its contract: what is left from the index on completes the CRC.
-- Assumes nothing.
use Rattle.layouts.proofs.Laws.Homiq.{summing_start, summing-next, summing-end}
use Rattle.layouts.proofs.homiq.crc.Goals as goal

pub loop-c-init : goal.loop-c-init
loop-c-init c = summing_start _ _ c.new-sum.ensures

pub loop-c-preserved : goal.loop-c-preserved
loop-c-preserved c = summing-next _ c.loop-c.invariant c.loop-c-test.true c.crc_on-sum.ensures

pub returns : goal.returns
returns c = summing-end c.loop-c.invariant c.loop-c-test.false
