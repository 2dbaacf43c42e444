-- `characters::put` meets its contract.
-- Assumes nothing.
use native.Mathlib.Omega.{arith}
use mathlib.Core.Path.{ap, ◌∙◌}
use Rattle.jsontext.specs.Work.Names.{left}
use Rattle.jsontext.proofs.Laws.Narrow.{put_first, put_on, all-put}
use Rattle.jsontext.proofs.characters.put.Goals as goal

pub loop-u-init : goal.loop-u-init
loop-u-init c =
    put_first c.args.room.now (omega (arith, c.well_formed)) c.requires
    (ap (λ u. left u.low u.rest.now) c.into_iter-u-iterator.ensures.into_iter_gives ∙ c.of-u-items.ensures)

pub loop-u-preserved : goal.loop-u-preserved
loop-u-preserved c = put_on c.loop-u.invariant c.in-Some.ensures.steps c.byte-n.ensures

pub returns : goal.returns
returns c = all-put c.loop-u.invariant c.in-None.ensures.steps.0
