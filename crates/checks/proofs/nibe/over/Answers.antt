-- `checks::nibe::over` meets its contract: what is left of the bytes leads from the loop's state to where the whole leads.
-- Assumes nothing.
use native.Mathlib.Omega.{arith}
use lib.ListN.{get_or}
use Rattle.checks.proofs.Laws.Feed.{left-start, left-next, left_end}
use Rattle.checks.proofs.Laws.Rotate.{feed-xor}
use Rattle.checks.proofs.nibe.over.Goals as goal

pub loop-b-init : goal.loop-b-init
loop-b-init c = left-start (omega arith)

pub loop-b-preserved : goal.loop-b-preserved
loop-b-preserved c =
    let b = get_or c.args.s.now c.loop-b.b-index 0 in
    left-next _ c.loop-b.invariant (omega arith)
    (feed-xor c.loop-b.r b c.loop-b.invariant.fits (c.type_inv.s c.loop-b.b-index).fits)

pub returns : goal.returns
returns c = left_end c.loop-b.invariant (omega arith)
