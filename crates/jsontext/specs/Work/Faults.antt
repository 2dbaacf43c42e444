-- What the functions answer that look for a fault.
-- Assumes nothing.
use Rattle.std.specs.Prelude.{List, ◌≡◌, ℕ, ◌≤◌, ◌<◌, length, get_or, drop}
use Rattle.jsontext.specs.Paper.Faults.{Stops}
use Rattle.jsontext.specs.declared.faults.Lack.{Lack}
use Rattle.jsontext.specs.declared.faults.Fault.{Fault}
use Rattle.jsontext.specs.declared.faults.Fault.TheVariants.{At}

-- the reading of what stands from p on stops at the place that is told
pub data StopsFrom (f : Stops) (s : List ℕ) (p : ℕ) : Fault → Type 0 where
  at : {w : Lack} {n : ℕ} → n ≤ length s → f (drop p s) w (drop n s) → StopsFrom f s p (At w n)

-- a byte at a place
pub record Stands (s : List ℕ) (p b : ℕ) : Type 0 where
  pub inside : p < length s
  pub is : get_or s p 0 ≡ b
