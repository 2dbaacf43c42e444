-- Calls that refuse with 5 alone: where its cause applies, it is the first; where it does not, none is.
-- Assumes nothing.
use mathlib.Core.Bool.{false}
use mathlib.Core.Path.{◌≡◌}
use Prim.Native.Nat.{ℕ}
use lib.Dec.{eqb}
use Rattle.digits.proofs.Laws.Refusals.{pass-over}
use Rattle.digits.specs.Paper.Refusals.{refusal_order, First, clear, here, after}

module _ {C : ℕ → Type 0} (only : (k : ℕ) → eqb k 5 ≡ false → C k → ⊥) where
  pub five : C 5 → First C refusal_order 5
  five c = pass-over (λ k. eqb k 5) only refusal_order (here c)

  pub none : (C 5 → ⊥) → First C refusal_order 0
  none n = pass-over (λ k. eqb k 5) only refusal_order (after n clear)
