-- `checks::bitwise::byte` meets its contract: the byte is laid at the register's head, and eight shifts follow.
-- Assumes nothing.
use Rattle.checks.specs.Paper.Check.{poly_bits}
use Rattle.checks.proofs.Laws.Feed.{shifting-start, shifting-next, shifting-end}
use Rattle.checks.proofs.bitwise.byte.Goals as goal

pub loop-k-init : goal.loop-k-init
loop-k-init g c = shifting-start c.laid-r.ensures.fits c.laid-r.ensures.mixed

pub loop-k-preserved : goal.loop-k-preserved
unfolding poly_bits
loop-k-preserved g c =
    shifting-next (g.R.Register.value c.shifted-r.result) c.loop-k.invariant c.loop-k-test.true c.shifted-r.ensures.fits c.shifted-r.ensures.moved

pub returns : goal.returns
returns g c = shifting-end c.loop-k.invariant c.loop-k-test.false g.met.R.Register.wide
