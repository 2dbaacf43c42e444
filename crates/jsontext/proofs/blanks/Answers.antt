-- `blanks` meets its contract.
-- Assumes nothing.
use native.Mathlib.Omega.{arith}
use Rattle.jsontext.proofs.Laws.Places.{told-yes, told-no}
use Rattle.jsontext.proofs.Laws.Blanks.{start, further, stop, walked, blanks}
use Rattle.jsontext.proofs.blanks.Goals as goal

pub loop-i-init : goal.loop-i-init
loop-i-init c = (start, omega arith)

pub returns-then-not-is_blank : goal.returns-then-not-is_blank
returns-then-not-is_blank c = stop blanks c.loop-i-test.true (told-no c.is_blank.ensures c.if-not-is_blank.true) c.loop-i.invariant.0

pub loop-i-preserved : goal.loop-i-preserved
loop-i-preserved c = (further blanks c.loop-i-test.true (told-yes c.is_blank.ensures c.if-not-is_blank.false) c.loop-i.invariant.0, omega arith)

pub returns : goal.returns
returns c = walked blanks (omega arith) c.loop-i.invariant.1 c.loop-i.invariant.0 c.max.ensures
