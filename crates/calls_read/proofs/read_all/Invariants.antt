-- `calls_read::read_all` is safe and ends: what is there of a line that is not complete lies in the input.
-- Assumes nothing.
use Rattle.std.proofs.Common.{◌≤◌, length}
use Rattle.calls_read.proofs.read_all.Given as goal

abbrev pub invariant-loop : goal.invariant-loop
invariant-loop g l = l.reading.have ≤ length l.input
