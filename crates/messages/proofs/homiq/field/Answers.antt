-- `messages::homiq::field` meets its contract: what is left behind the fields that are passed is what stands from the one asked for on.
-- Assumes nothing.
use mathlib.Core.Path.{refl, ◌∙◌}
use Prim.Native.Nat.{◌+◌, ◌-◌}
use native.Mathlib.Nat.{sub_self}
use native.Mathlib.Numerals.{unary_clauses}
use native.Mathlib.Omega.{arith}
use borrow.Author.Rules.{rules}
use Rattle.digits.proofs.Laws.Handed.{part_of}
use Rattle.messages.proofs.Laws.HomiqLook.{field_next, field_out, field_is}
use Rattle.messages.proofs.homiq.field.Goals as goal

pub loop-init : goal.loop-init
loop-init c = (omega arith, simp unary_clauses refl)

pub field_end-end-requires : goal.field_end-end-requires
field_end-end-requires c = c.loop.invariant.0

-- `sub_self`: a part from any place to itself is empty, so that only its place tells a wrong one
pub returns-then-end-content : goal.returns-then-end-content
returns-then-end-content c =
    part_of (field_out _ _ _ _ c.field_end-end.ensures.0 _ c.loop.invariant.1 {n = c.args.number - (c.loop.counter + 1)} (omega (arith, c.loop-test.true)) (omega (arith, c.if-end-content.true))) (search (rules, sub_self)) refl

pub loop-preserved : goal.loop-preserved
loop-preserved c =
    (omega (arith, c.field_end-end.ensures.1, c.if-end-content.false), field_next _ _ _ _ c.field_end-end.ensures.0 (omega (arith, c.loop-test.true)) ∙ c.loop.invariant.1)

pub field_end-requires : goal.field_end-requires
field_end-requires c = c.loop.invariant.0

pub returns : goal.returns
returns c =
    part_of (field_is _ _ _ _ c.field_end.ensures.0 _ c.loop.invariant.1 (omega (arith, c.loop-test.false)) c.loop.invariant.0) refl refl
