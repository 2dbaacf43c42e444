-- Tests that tell whether a statement holds, and two of them one after the other.
-- Assumes nothing.
use mathlib.Core.Bool.{Bool, true, false, ◌&&◌, false≢true, true≢false}
use mathlib.Core.Path.{◌≡◌, refl, sym, subst}
use Prim.Native.Nat.{ℕ}
use lib.Dec.{eqb}
use borrow.Author.Tests.{ne_eqb}
use Rattle.digits.specs.Paper.Read.{Decides, holds, fails}
use Rattle.digits.proofs.Laws.Tests.{told}

-- a test that is true where A holds, and only there
pub tells : {A : Type 0} (t : Bool) → (t ≡ true → A) → (A → t ≡ true) → Decides A t
tells true f g = holds (f refl)
tells false f g = fails (λ a. false≢true (g a))

-- two numbers that would be the same
pub unequal : {A : Type 0} (x y : ℕ) → (x ≡ y → ⊥) → (A → x ≡ y) → Decides A (eqb x y)
unequal {A} x y n f = subst (Decides A) (sym (ne_eqb x y n)) (fails (λ a. n (f a)))

-- one test and then another
pub both-tell : {A B : Type 0} {a b : Bool} → Decides A a → Decides B b → Decides (A × B) (a && b)
both-tell (holds x) (holds y) = holds (x, y)
both-tell (holds x) (fails g) = fails (λ p. g p.1)
both-tell (fails f) q = fails (λ p. f p.0)

pub first-fails : {A B : Type 0} {a : Bool} → Decides A a → a ≡ false → Decides (A × B) a
first-fails (holds x) e = absurd (true≢false e)
first-fails (fails f) e = fails (λ p. f p.0)

pub second-tells : {A B : Type 0} {a b : Bool} → Decides A a → a ≡ true → Decides B b → Decides (A × B) b
second-tells t e (holds y) = holds (told t e, y)
second-tells t e (fails g) = fails (λ p. g p.1)
