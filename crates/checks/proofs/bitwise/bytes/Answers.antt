-- `checks::bitwise::bytes` meets its contract: what is left of the bytes leads from the loop's register to where the whole leads.
-- Assumes nothing.
use Rattle.checks.proofs.Laws.Feed.{left-start, left-next, left_end}
use Rattle.checks.proofs.bitwise.bytes.Goals as goal

pub loop-b-init : goal.loop-b-init
loop-b-init g c = left-start c.requires

pub loop-b-preserved : goal.loop-b-preserved
loop-b-preserved g c = left-next (g.R.Register.value c.byte-r.result) c.loop-b.invariant c.loop-b-test.true c.byte-r.ensures

pub returns : goal.returns
returns g c = left_end c.loop-b.invariant c.loop-b-test.false
