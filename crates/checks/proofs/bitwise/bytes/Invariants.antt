-- `checks::bitwise::bytes` meets its contract: what is left of the bytes leads from the loop's register to where the whole leads.
-- Assumes nothing.
use Rattle.checks.specs.Work.Engines.{engine}
use Rattle.checks.proofs.Laws.Feed.{Left}
use Rattle.checks.proofs.bitwise.bytes.Given as goal

abbrev pub invariant-loop-b : goal.invariant-loop-b
invariant-loop-b g l =
    let m = g.R.Register in
    Left (engine m.width m.order (m.value l.poly)) (m.value l.fn.v) l.s (m.value l.r) l.b-index
