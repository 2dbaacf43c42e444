-- Choices by a test, tests taken apart, and lists of a known length.
-- Assumes nothing.
use mathlib.Core.Bool.{Bool, true, false, cond, ◌&&◌, ◌||◌, false≢true}
use mathlib.Core.List.{List}
use mathlib.Core.Logic.{◌⊎◌, inl, inr}
use mathlib.Core.Path.{◌≡◌, refl, sym, ◌∙◌, subst}
use Prim.Native.Nat.{ℕ}
use native.Mathlib.Omega.{arith}
use lib.ListN.{length}
use lib.Seq.{take_all}
use Rattle.digits.proofs.Laws.Parts.{ats, take-ats}

-- what holds of both sides of a test, each under what the test says, holds of the choice
pub by-test : {A : Type 0} (P : A → Type 0) (t : Bool) {a b : A} → (t ≡ true → P a) → (t ≡ false → P b) → P (cond t a b)
by-test P true f g = f refl
by-test P false f g = g refl

pub both_true : (a b : Bool) → (a && b) ≡ true → (a ≡ true) × (b ≡ true)
both_true true b e = (refl, e)
both_true false b e = absurd (false≢true e)

pub one-true : (a b : Bool) → (a || b) ≡ true → (a ≡ true) ⊎ (b ≡ true)
one-true true b e = inl refl
one-true false b e = inr e

-- what holds of n elements, one by one, holds of a list of that length
pub by_length : (n : ℕ) (P : List ℕ → Type 0) → ((t : List ℕ) → P (ats t 0 n)) → (s : List ℕ) → length s ≡ n → P s
by_length n P f s e =
    subst P (sym (take-ats s n 0 (omega arith)) ∙ take_all n s (omega arith)) (f s)
