-- `layouts::homiq::number` meets its contract: each early return refutes what a number at the head has to be, the last has all of it.
-- Assumes nothing.
use mathlib.Core.List.{List}
use mathlib.Core.Path.{◌≡◌, sym, ◌∙◌, ap}
use Prim.Native.Nat.{ℕ}
use native.Mathlib.Omega.{arith}
use lib.ListN.{take, length-take}
use Rattle.digits.specs.Work.Decimal.{guess}
use Rattle.layouts.specs.Work.Heads.{leading}
use Rattle.layouts.specs.Work.Homiq.{is_figure}
use Rattle.layouts.proofs.Laws.HomiqFields.{closed-past, number-no, number-value, number-whole}
use Rattle.layouts.proofs.homiq.number.Goals as goal

-- the figures are those at the head of all the bytes
counted : (n : ℕ) (s u : List ℕ) → n ≡ leading is_figure u → u ≡ take 4 s → n ≡ leading is_figure (take 4 s)
counted n s u e f = e ∙ ap (leading is_figure) f

made : (n v : ℕ) (s u : List ℕ) → v ≡ guess 0 (take n u) → u ≡ take 4 s → v ≡ guess 0 (take n (take 4 s))
made n v s u e f = e ∙ ap (λ (u : List ℕ). guess 0 (take n u)) f

pub figures-digits-requires : goal.figures-digits-requires
figures-digits-requires c = rw c.first.ensures (omega (arith, length-take 4 c.args.s.now))

pub returns-then-most-v : goal.returns-then-most-v
returns-then-most-v c = sym (number-no _ _ _ (counted _ c.args.s.now _ c.figures-digits.ensures.end_value c.first.ensures) (made _ _ c.args.s.now _ c.figures-digits.ensures.value_value c.first.ensures) _ c.requires (λ f. omega (arith, f.most)))

pub returns-then-n-width : goal.returns-then-n-width
returns-then-n-width c = sym (number-no _ _ _ (counted _ c.args.s.now _ c.figures-digits.ensures.end_value c.first.ensures) (made _ _ c.args.s.now _ c.figures-digits.ensures.value_value c.first.ensures) _ c.requires (λ f. c.if-n-width.true (f.digits ∙ sym c.width.ensures)))

pub returns-then-s-n : goal.returns-then-s-n
returns-then-s-n c = sym (number-no _ _ _ (counted _ c.args.s.now _ c.figures-digits.ensures.end_value c.first.ensures) (made _ _ c.args.s.now _ c.figures-digits.ensures.value_value c.first.ensures) _ c.requires (λ f. closed-past c.args.s.now _ c.if-s-n.true f.end))

pub returns-then-s-n-ne59 : goal.returns-then-s-n-ne59
returns-then-s-n-ne59 c = sym (number-no _ _ _ (counted _ c.args.s.now _ c.figures-digits.ensures.end_value c.first.ensures) (made _ _ c.args.s.now _ c.figures-digits.ensures.value_value c.first.ensures) _ c.requires (λ f. c.if-s-n-ne59.true f.end))

pub returns : goal.returns
returns c =
    let n = counted _ c.args.s.now _ c.figures-digits.ensures.end_value c.first.ensures in
    let v = made _ _ c.args.s.now _ c.figures-digits.ensures.value_value c.first.ensures in
    ((number-whole _ _ _ n v _ c.requires c.if-most-v.false (c.if-n-width.false ∙ c.width.ensures) c.if-s-n-ne59.false, omega arith, omega (arith, c.if-s-n.false)), number-value _ _ _ n v)
