-- `units::same_name` meets its contract.
-- Assumes nothing.
use mathlib.Core.Path.{ap, ◌∙◌}
use Rattle.jsontext.specs.Work.Names.{left}
use Rattle.jsontext.proofs.Laws.Cursors.{set_out, walk-on, differ, longer, first_ends}
use Rattle.jsontext.proofs.units.same_name.Goals as goal

pub loop-u-init : goal.loop-u-init
loop-u-init c =
    set_out (ap (λ u. left u.low u.rest.now) c.into_iter-u-iterator.ensures.into_iter_gives ∙ c.of-u-items.ensures) c.of-others.ensures

pub returns-in_default : goal.returns-in_default
returns-in_default c = longer c.loop-u.invariant c.in-Some.ensures.steps c.in_default.ensures.steps.0

pub returns-then-u-other : goal.returns-then-u-other
returns-then-u-other c = differ c.loop-u.invariant c.in-Some.ensures.steps c.in-Some-next.ensures.steps c.if-u-other.true

pub loop-u-preserved : goal.loop-u-preserved
loop-u-preserved c = walk-on c.loop-u.invariant c.in-Some.ensures.steps c.in-Some-next.ensures.steps c.if-u-other.false

pub returns : goal.returns
returns c = first_ends c.loop-u.invariant _ _ _ c.is_none.ensures c.in-None.ensures.steps.0 c.next-2.ensures.steps
