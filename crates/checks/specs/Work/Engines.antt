-- The checks that the engine serves: one for each width and bit order, whatever the polynomial. (The start value does
-- not matter to the bytes that follow.)
-- Assumes nothing.
use Rattle.std.specs.Prelude.{ℕ}
use Rattle.checks.specs.Paper.Bits.{BitOrder}
use Rattle.checks.specs.Paper.Check.{Check}

abbrev pub engine : (width : ℕ) → BitOrder → (poly : ℕ) → Check
engine w o p = record { width = w; poly = p; start = 0; order = o }
