-- `nikobus::six_of` meets its contract.
-- Assumes nothing.
use native.Mathlib.Omega.{arith}
use Rattle.asked.proofs.Laws.Fields.{six-all}
use Rattle.asked.proofs.nikobus.six_of.Goals as goal

pub returns : goal.returns
returns c = six-all c.args.b (omega (arith, c.well_formed))
