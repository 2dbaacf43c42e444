-- `checks::bitwise::byte` meets its contract: the byte is laid at the register's head, and eight shifts follow.
-- Assumes nothing.
use Rattle.checks.specs.Work.Engines.{engine}
use Rattle.checks.proofs.Laws.Feed.{Shifting}
use Rattle.checks.proofs.bitwise.byte.Given as goal

abbrev pub invariant-loop-k : goal.invariant-loop-k
invariant-loop-k g l =
    let m = g.R.Register in
    Shifting (engine m.width m.order (m.value l.poly)) (m.value l.fn.v) l.b (m.value l.r) l._k
