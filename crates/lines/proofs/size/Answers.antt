-- `lines::size` meets its contract: the place behind a line from the front of a room is its length.
-- Assumes nothing.
use native.Mathlib.Omega.{arith}
use Rattle.lines.proofs.size.Goals as goal

pub returns : goal.returns
returns c = omega (arith, c.line.ensures.behind, c.requires.short)
