-- A loop over things that stand one behind the other.
-- Assumes nothing.
use mathlib.Core.Path.{refl}
use mathlib.Core.List.{List, ◌∷◌}
use Prim.Native.Nat.{ℕ, ◌+◌}
use native.Mathlib.Omega.{arith}
use Rattle.sheet.specs.Work.Carried.{Carried}

pub start : {X : Type 0} {Whole : List X → Type 0} → Carried Whole Whole 1
start = record { forth = λ rest p. (rest, p, refl); back = λ whole p. (whole, p) }

-- one thing more is passed
pub step : {X : Type 0} {Whole Rest Next : List X → Type 0} {n : ℕ} (x : X) → ((xs : List X) → Next xs → Rest (x ∷ xs))
    → ((xs : List X) → Rest xs → (ys : List X) × Next ys) → Carried Whole Rest n → Carried Whole Next (n + 1)
step {n = n} x put off c =
    record {
      forth = λ xs p. let w = c.forth (x ∷ xs) (put xs p) in (w.0, w.1, omega (arith, w.2));
      back = λ whole p. let r = c.back whole p in off r.0 r.1;
    }
