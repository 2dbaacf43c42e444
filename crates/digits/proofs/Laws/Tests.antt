-- Tests taken apart.
-- Assumes nothing.
use mathlib.Core.Path.{◌≡◌, refl}
use mathlib.Core.Bool.{Bool, true, false, ◌&&◌, true≢false, false≢true}
use lib.Dec.{T}
use Rattle.digits.specs.Paper.Read.{Decides, holds, fails}

pub T_and : (a b : Bool) → T (a && b) → T a × T b
T_and true b t = (tt, t)
T_and false b t = absurd t

pub T_true : (b : Bool) → T b → b ≡ true
T_true true t = refl
T_true false t = absurd t

-- ---- a test's answer

pub told : {A : Type 0} {b : Bool} → Decides A b → b ≡ true → A
told (holds a) e = a
told (fails f) e = absurd (false≢true e)

pub untold : {A : Type 0} {b : Bool} → Decides A b → b ≡ false → A → ⊥
untold (holds a) e = absurd (true≢false e)
untold (fails f) e = f
