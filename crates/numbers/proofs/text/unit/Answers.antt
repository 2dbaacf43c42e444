-- `numbers::text::unit` meets its contract: the decimals are 0, 1, 2 or 3.
-- Assumes nothing.
use mathlib.Core.Path.{◌≡◌, ap}
use Prim.Native.Nat.{ℕ, ◌^◌}
use native.Mathlib.Omega.{arith}
use Rattle.numbers.proofs.text.unit.Goals as goal

pub returns-then-decimals-lt1 : goal.returns-then-decimals-lt1
returns-then-decimals-lt1 c = ap (λ (d : ℕ). 10 ^ d) (let e : 0 ≡ c.args.decimals = omega arith in e)

pub returns-then-decimals-lt2 : goal.returns-then-decimals-lt2
returns-then-decimals-lt2 c = ap (λ (d : ℕ). 10 ^ d) (let e : 1 ≡ c.args.decimals = omega arith in e)

pub returns-then-decimals-lt3 : goal.returns-then-decimals-lt3
returns-then-decimals-lt3 c = ap (λ (d : ℕ). 10 ^ d) (let e : 2 ≡ c.args.decimals = omega arith in e)

pub returns : goal.returns
returns c = ap (λ (d : ℕ). 10 ^ d) (let e : 3 ≡ c.args.decimals = omega arith in e)
