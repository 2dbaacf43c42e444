-- `layouts::homiq::crc` meets its contract: what is left from the index on completes the CRC.
-- Assumes nothing.
use Rattle.layouts.proofs.Laws.Homiq.{Summing}
use Rattle.layouts.proofs.homiq.crc.Given as goal

abbrev pub invariant-loop-c : goal.invariant-loop-c
invariant-loop-c l = Summing l.s l.sum.value l.c-index
