-- Rows of the table, by their numbers.
-- Assumes nothing.
use mathlib.Core.Bool.{Bool}
use mathlib.Core.List.{[], ◌∷◌}
use mathlib.Core.Path.{◌≡◌, refl, ap, subst}
use Prim.Native.Nat.{ℕ, zero, suc, ◌+◌, ◌-◌, ◌≤◌, ◌<◌}
use native.Mathlib.Omega.{arith}
use lib.Dec.{T}
use lib.ListN.{replicate, get_or-eq_default}
use Rattle.digits.proofs.Laws.Table.{every, at}
use Rattle.shapes.specs.Paper.Shapes.{Shape, shapes, shape_at, no_shape, wired}

-- each row tested once
pub each_row : (f : ℕ → Bool) → T (every (λ i x. f i) 0 (replicate 24 0)) → (r : ℕ) → r ≤ 23 → T (f r)
each_row f t r h = at (λ i x. f i) (replicate 24 0) t r (omega arith)

-- the rows of Homiq have the same members; a number above the last row has none
wired-at : (j : ℕ) → j < 5 → (shape_at (j + 19)).members ≡ wired
wired-at zero h = refl
wired-at (suc zero) h = refl
wired-at (suc (suc zero)) h = refl
wired-at (suc (suc (suc zero))) h = refl
wired-at (suc (suc (suc (suc zero)))) h = refl
wired-at (suc (suc (suc (suc (suc j))))) h = absurd (omega arith)

pub wired-row : (r : ℕ) → 19 ≤ r → r ≤ 23 → (shape_at r).members ≡ wired
wired-row r h l =
    let e : r - 19 + 19 ≡ r = omega arith in
    subst (λ (j : ℕ). (shape_at j).members ≡ wired) e (wired-at (r - 19) (omega arith))

pub no-members : (r : ℕ) → 23 < r → (shape_at r).members ≡ []
no-members r h = ap (λ (sh : Shape). sh.members) (get_or-eq_default (no_shape ∷ shapes) no_shape h)

-- a number that is none of `count` numbers from `low` on, as a `match` says it in its last arm
abbrev pub NoneOf : ℕ → ℕ → ℕ → Type 0
NoneOf low zero n = Unit
NoneOf low (suc count) n = NoneOf low count n × (n ≡ low + count → ⊥)

pub past : (low count : ℕ) {n : ℕ} → low ≤ n → NoneOf low count n → low + count ≤ n
past low zero h x = omega arith
past low (suc count) h (x, f) = omega (arith, past low count h x, f)
