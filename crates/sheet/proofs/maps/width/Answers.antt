-- `sheet::maps::width` meets its contract: by the byte's range.
-- Assumes nothing.
use native.Mathlib.Omega.{arith}
use Rattle.sheet.proofs.Laws.Bytes.{in-zero, in-large, said-none, said-at}
use Rattle.sheet.proofs.maps.width.Goals as goal

pub returns-in-1-to-8 : goal.returns-in-1-to-8
returns-in-1-to-8 c = said-at (record { some-type = omega arith; most = omega arith }) 0 (omega arith)

pub returns-in-9-to-16 : goal.returns-in-9-to-16
returns-in-9-to-16 c = said-at (record { some-type = omega arith; most = omega arith }) 1 (omega arith)

pub returns-in-17-to-24 : goal.returns-in-17-to-24
returns-in-17-to-24 c = said-at (record { some-type = omega arith; most = omega arith }) 2 (omega arith)

pub returns-in_default : goal.returns-in_default
returns-in_default c = said-none _ (in-zero (omega arith))

pub returns-in_default-2 : goal.returns-in_default-2
returns-in_default-2 c = said-none _ (in-large (omega arith))
