-- `digits::low_first::value` meets its contract: the number of what has been read, from the last byte to the first.
-- Assumes nothing.
use mathlib.Core.Path.{◌≡◌, ap, sym, ◌∙◌, subst}
use Prim.Native.Nat.{ℕ, ◌+◌, ◌-◌, ◌*◌, ◌^◌, ◌<◌}
use native.Mathlib.Nat.{le_refl}
use native.Mathlib.Omega.{arith}
use lib.Dec.{lit<}
use lib.ListN.{get_or, drop_of_length-le}
use Rattle.digits.specs.Paper.LowFirst.{low_value}
use Rattle.digits.proofs.Laws.LowFirst.{value-step, value-part}
use Rattle.digits.proofs.low_first.value.Goals as goal

pub loop-i-init : goal.loop-i-init
unfolding low_value
loop-i-init c = (omega arith, rw (drop_of_length-le c.args.s.now (le_refl _)), lit< tt)

pub overflow_cast-n : goal.overflow_cast-n
overflow_cast-n c = omega (arith, c.type_inv.s (c.loop-i.i - 1))

pub overflow_mul-n : goal.overflow_mul-n
overflow_mul-n c = omega arith

pub overflow_add-n : goal.overflow_add-n
overflow_add-n c = omega (arith, c.type_inv.s (c.loop-i.i - 1))

pub loop-i-preserved : goal.loop-i-preserved
loop-i-preserved c =
    let l = c.loop-i in
    let s = c.args.s.now in
    let e =
    ap (λ (x : ℕ). get_or s (l.i - 1) 0 + x * 256) l.invariant.1
    ∙ value-step s l.i c.loop-i-test.true l.invariant.0 in (
      omega arith,
      e,
      subst (λ (x : ℕ). x < 2 ^ 32) (sym e)
          (value-part 4 s (l.i - 1) (record { each = λ i. (c.type_inv.s i).fits }) c.requires),
    )

pub overflow_cast-result : goal.overflow_cast-result
overflow_cast-result c = omega arith

pub returns : goal.returns
returns c = let l = c.loop-i in let z : l.i ≡ 0 = omega arith in l.invariant.1 ∙ rw z
