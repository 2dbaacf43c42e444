-- `sheet::reader::comma` meets its contract. The loop's invariant: what is left says where the comma is.
-- Assumes nothing.
use native.Mathlib.Omega.{arith}
use Rattle.sheet.proofs.Laws.Cuts.{looking-start, looking-here, looking-stops, looking-next, looking-end}
use Rattle.sheet.proofs.reader.comma.Goals as goal

pub loop-i-init : goal.loop-i-init
loop-i-init c = looking-start _

pub returns-then-x-eq44 : goal.returns-then-x-eq44
returns-then-x-eq44 c = looking-here c.loop-i.invariant (omega arith) c.if-x-eq44.true

pub returns-then-x-eq10 : goal.returns-then-x-eq10
returns-then-x-eq10 c = looking-stops c.loop-i.invariant (omega arith) c.if-x-eq10.true

pub loop-i-preserved : goal.loop-i-preserved
loop-i-preserved c = looking-next c.loop-i.invariant (omega arith) c.if-x-eq44.false c.if-x-eq10.false

pub returns : goal.returns
returns c = looking-end c.loop-i.invariant (omega arith)
