-- `lines::fits` meets its contract: the bound suffices, and else the line is measured.
-- Assumes nothing.
use mathlib.Core.Path.{ap}
use Prim.Native.Nat.{ℕ}
use lib.Dec.{leb}
use Rattle.lines.proofs.Laws.Placed.{surely}
use Rattle.lines.proofs.fits.Goals as goal

pub returns-then-surely : goal.returns-then-surely
returns-then-surely c = surely c.surely.result c.requires c.surely.ensures c.if-surely.true

pub returns : goal.returns
returns c = ap (λ (n : ℕ). leb n c.args.bytes) c.size.ensures
