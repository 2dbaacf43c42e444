-- `numbers::text::put` meets its contract: the sign, then the whole part, then the fraction.
-- Assumes nothing.
use mathlib.Core.Path.{ap}
use Prim.Native.Nat.{ℕ, ◌/◌}
use native.Mathlib.Nat.{div-le_self}
use native.Mathlib.Omega.{arith}
use Rattle.digits.specs.Paper.Decimal.{decimal}
use Rattle.puts.proofs.Laws.Puts.{◌then◌, puts-as}
use Rattle.numbers.specs.Paper.Text.{text_of}
use Rattle.numbers.proofs.Laws.Text.{ten-pos}
use Rattle.numbers.proofs.text.put.Goals as goal

pub nonzero_div-whole : goal.nonzero_div-whole
nonzero_div-whole c = rw c.unit.ensures (ten-pos c.args.decimals)

pub overflow_cast-whole : goal.overflow_cast-whole
overflow_cast-whole c = omega (arith, div-le_self c.args.n c.unit.result)

pub returns : goal.returns
unfolding text_of
returns c =
    c.put_sign-a.ensures
    then puts-as (ap (λ (u : ℕ). decimal (c.args.n / u)) c.unit.ensures) c.whole-b.ensures
    then c.put_fraction.ensures
