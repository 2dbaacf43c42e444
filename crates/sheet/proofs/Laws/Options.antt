-- An `Option` taken for a `Result`.
-- Assumes nothing.
use mathlib.Core.Path.{◌≡◌, refl}
use Rattle.std.specs.Prelude.{Option, Some, None, Result, Ok, Err}
use Rattle.std.specs.Option.{ok_or}

pub was-none : {A E : Type 0} {e : E} (o : Option A) {r : Result A E} {f : E} → r ≡ ok_or o e → r ≡ Err f → (o ≡ None) × (f ≡ e)
was-none None p q = (refl, cc)
was-none (Some a) p q = cc

pub was-some : {A E : Type 0} (e : E) (o : Option A) {r : Result A E} {a : A} → r ≡ ok_or o e → r ≡ Ok a → o ≡ Some a
was-some e None p q = cc
was-some e (Some a) p q = cc
