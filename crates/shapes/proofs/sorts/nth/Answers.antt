-- `sorts::nth` meets its contract.
-- Assumes nothing.
use native.Mathlib.Omega.{arith}
use Rattle.shapes.specs.declared.Sort.TheVariants.{Nothing}
use Rattle.shapes.proofs.sorts.nth.Goals as goal

pub returns-in-Some : goal.returns-in-Some
returns-in-Some c = record { is = c.in-Some.ensures.lookup.3.1 Nothing }

pub returns-in-None : goal.returns-in-None
returns-in-None c = record { is = c.in-None.ensures.lookup.4 (omega arith) Nothing }
