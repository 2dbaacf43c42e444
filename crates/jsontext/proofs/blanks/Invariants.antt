-- `blanks` meets its contract.
-- Assumes nothing.
use Prim.Native.Nat.{◌≤◌, max}
use lib.ListN.{length}
use Rattle.jsontext.specs.Paper.Json.{blank}
use Rattle.jsontext.proofs.Laws.Blanks.{Behind}
use Rattle.jsontext.proofs.blanks.Given as goal

abbrev pub invariant-loop-i : goal.invariant-loop-i
invariant-loop-i l = (Behind blank l.s l.p l.i) × (l.i ≤ max l.p (length l.s))
