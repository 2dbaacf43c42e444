-- Ranges: how far from zero a number of one is; and what `raw::in_range` told of a number, which it is given as the machine reads it
-- back, where the code goes on by `if !in_range(z)`.
-- Assumes nothing.
use mathlib.Core.Path.{◌≡◌}
use mathlib.Core.Bool.{Bool, true, false}
use Prim.Native.Nat.{ℕ, suc-le-suc, ◌≤◌}
use native.Mathlib.Nat.{le_trans}
use lib.Dec.{leb→le}
use lib.IntN.{ℤ, pos, negsuc, nat_abs}
use mir.Syntax.{w64}
use mir.Val.{SFits}
use Rattle.digits.specs.Paper.Read.{Decides}
use Rattle.digits.proofs.Laws.Tests.{told, untold}
use Rattle.numbers.specs.Paper.Raw.{Between, Raw}
use Rattle.numbers.proofs.Laws.Signs.{back, said}

-- no number of a range is farther from zero than m where neither end is
pub near-zero : (m : ℕ) (least most z : ℤ) → Between least most z → nat_abs least ≤ m → nat_abs most ≤ m → nat_abs z ≤ m
near-zero m least (pos b) (pos n) r h k = le_trans (leb→le n b r.high.le) k
near-zero m least (negsuc b) (pos n) r h k = absurd r.high.le
near-zero m (pos a) most (negsuc n) r h k = absurd r.low.le
near-zero m (negsuc a) most (negsuc n) r h k = le_trans (suc-le-suc (leb→le n a r.low.le)) h

module _ {z : ℤ} (f : SFits w64 z) {b : Bool} (t : Decides (Raw (back z)) b) where
  of_number : Decides (Raw z) b
  of_number = said (λ (y : ℤ). Decides (Raw y) b) z f t

  pub refused : b ≡ false → Raw z → ⊥
  refused e = untold of_number e

  pub passed : b ≡ true → Raw z
  passed e = told of_number e

  -- of what the machine reads back, for the function that is called next
  pub passed-back : b ≡ true → Raw (back z)
  passed-back e = told t e
