-- `lines::placed` meets its contract: a line is put only where it fits.
-- Assumes nothing.
use native.Mathlib.Omega.{arith}
use Rattle.lines.proofs.Laws.Placed.{not-placed, all_placed}
use Rattle.lines.proofs.placed.Goals as goal

pub returns-then-fits : goal.returns-then-fits
returns-then-fits c = all_placed c.left.ensures c.fits.ensures c.if-fits.true c.line.ensures (omega (arith, c.well_formed))

pub returns-else-fits : goal.returns-else-fits
returns-else-fits c = not-placed c.left.ensures c.fits.ensures c.if-fits.false
