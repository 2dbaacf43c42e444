-- `host::answers::kind_byte` meets its contract.
-- Assumes nothing.
use mathlib.Core.Path.{◌≡◌, subst}
use Prim.Native.Nat.{ℕ, ◌<◌}
use native.Mathlib.Omega.{arith}
use Rattle.std.specs.Prelude.{Result, Ok, Err, OkIff}
use Rattle.std.specs.Result.{result_unwrap_or}
use Rattle.host.specs.Paper.Kind.{KindByte, held, beyond}
use Rattle.host.proofs.answers.kind_byte.Goals as goal

-- the byte that a number is, or else 0
byte : {E : Type 0} {k b : ℕ} (r : Result ℕ E) → OkIff r (k < 256) k → b ≡ result_unwrap_or r 0 → KindByte k b
byte (Ok x) i e = rw (e, i.1) (held i.0)
byte (Err x) i e = rw e (beyond (omega (arith, i)))

pub returns : goal.returns
returns c =
    byte c.try_from.result (subst (λ (x : ℕ). OkIff c.try_from.result (x < 256) x) (omega arith) c.try_from.ensures) c.unwrap_or.ensures
