-- `layouts::homiq::field` meets its contract: each early return refutes what a field at the head has to be, the last has all of it.
-- Assumes nothing.
use mathlib.Core.List.{List}
use mathlib.Core.Path.{◌≡◌, sym, ◌∙◌, ap}
use Prim.Native.Nat.{ℕ, ◌+◌}
use native.Mathlib.Omega.{arith}
use lib.ListN.{take}
use Rattle.layouts.specs.Paper.Homiq.{field_char}
use Rattle.layouts.specs.Work.Heads.{leading}
use Rattle.layouts.proofs.Laws.HomiqFields.{closed-past, field-no, field-whole}
use Rattle.layouts.proofs.homiq.field.Goals as goal

-- the characters are those at the head of all the bytes
counted : (most n : ℕ) (s u : List ℕ) → n ≡ leading field_char u → u ≡ take (most + 1) s → n ≡ leading field_char (take (most + 1) s)
counted most n s u e f = e ∙ ap (leading field_char) f

pub returns-then-n-eq0 : goal.returns-then-n-eq0
returns-then-n-eq0 c = sym (field-no _ _ _ (counted _ _ c.args.s.now _ c.characters-n.ensures c.first.ensures) (λ f. omega (arith, f.some)))

pub returns-then-most-n : goal.returns-then-most-n
returns-then-most-n c = sym (field-no _ _ _ (counted _ _ c.args.s.now _ c.characters-n.ensures c.first.ensures) (λ f. omega (arith, f.short)))

pub returns-then-s-n : goal.returns-then-s-n
returns-then-s-n c = sym (field-no _ _ _ (counted _ _ c.args.s.now _ c.characters-n.ensures c.first.ensures) (λ f. closed-past c.args.s.now _ c.if-s-n.true f.end))

pub returns-then-s-n-ne59 : goal.returns-then-s-n-ne59
returns-then-s-n-ne59 c = sym (field-no _ _ _ (counted _ _ c.args.s.now _ c.characters-n.ensures c.first.ensures) (λ f. c.if-s-n-ne59.true f.end))

pub returns : goal.returns
returns c = (field-whole _ _ _ (counted _ _ c.args.s.now _ c.characters-n.ensures c.first.ensures) (omega arith) c.if-most-n.false c.if-s-n-ne59.false, omega arith, omega (arith, c.if-s-n.false))
