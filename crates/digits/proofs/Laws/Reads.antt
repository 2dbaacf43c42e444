-- What a reading says, and that there is one.
-- Assumes nothing.
use mathlib.Core.Path.{◌≡◌, refl, sym, ◌∙◌}
use Prim.Native.Nat.{ℕ, ◌<◌}
use native.Mathlib.Omega.{arith}
use mathlib.Core.List.{List}
use Rattle.digits.specs.Paper.Read.{Reads, is, none}

module _ {A : Type 0} {zeros : A} {Limits : A → Type 0} {write : A → List ℕ} {no : ℕ} {s : List ℕ} (refuses : 0 < no) where
  -- an answer of number 0 is the value that is written so
  pub answered : {k : ℕ} {v : A} → Reads zeros Limits write no s k v → k ≡ 0 → Limits v × (write v ≡ s)
  answered (is l e) z = (l, e)
  answered (none f) z = absurd (omega arith)

  -- a refusal says that there is none
  pub refused : {k : ℕ} {v : A} → Reads zeros Limits write no s k v → k ≡ no → (u : A) → Limits u → write u ≡ s → ⊥
  refused (is l e) z = absurd (omega arith)
  refused (none f) z = f

  -- where there is none, it is refused
  pub no-reading : {k : ℕ} {v : A} → ((u : A) → Limits u → write u ≡ s → ⊥) → Reads zeros Limits write no s k v → k ≡ no
  no-reading f (is {v = v} l e) = absurd (f v l e)
  no-reading f (none g) = refl

  -- of a writer that writes no two values alike, two answers are the same
  pub one-reading : ((u v : A) → Limits u → Limits v → write u ≡ write v → u ≡ v)
      → {k m : ℕ} {u v : A} → Reads zeros Limits write no s k u → Reads zeros Limits write no s m v → (k ≡ m) × (u ≡ v)
  one-reading inj (is {v = u} l e) (is {v = v} j f) = (refl, inj u v l j (e ∙ sym f))
  one-reading inj (is {v = u} l e) (none f) = absurd (f u l e)
  one-reading inj (none f) (is {v = v} j e) = absurd (f v j e)
  one-reading inj (none f) (none g) = (refl, refl)
