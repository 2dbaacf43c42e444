-- `characters::is_name` meets its contract.
-- Assumes nothing.
use mathlib.Core.Path.{refl, sym, ◌∙◌}
use Rattle.jsontext.proofs.Laws.Cursors.{set_out, walk-on, differ, shorter, second_ends}
use Rattle.jsontext.proofs.Laws.Places.{at_place, at-end}
use Rattle.jsontext.proofs.characters.is_name.Goals as goal

pub loop-b-init : goal.loop-b-init
loop-b-init c = set_out c.of-units.ensures refl

pub returns-in_default : goal.returns-in_default
returns-in_default c = shorter c.loop-b.invariant c.in_default.ensures.steps.0 (at_place _ _ c.loop-b-test.true)

pub returns-then-u-from : goal.returns-then-u-from
returns-then-u-from c = differ c.loop-b.invariant c.in-Some.ensures.steps (at_place _ _ c.loop-b-test.true) (λ e. c.if-u-from.true (e ∙ sym c.from.ensures))

pub loop-b-preserved : goal.loop-b-preserved
loop-b-preserved c = walk-on c.loop-b.invariant c.in-Some.ensures.steps (at_place _ _ c.loop-b-test.true) (c.if-u-from.false ∙ c.from.ensures)

pub returns : goal.returns
returns c = second_ends c.loop-b.invariant _ _ _ c.is_none.ensures (at-end _ _ c.loop-b-test.false) c.next-2.ensures.steps
