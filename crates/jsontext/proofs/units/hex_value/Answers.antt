-- `units::hex_value` meets its contract.
-- Assumes nothing.
use borrow.Author.Tests.{lt-ltb, le-ltb}
use Rattle.jsontext.specs.Work.Units.{hex_value}
use native.Mathlib.Omega.{arith}
use Rattle.jsontext.proofs.units.hex_value.Goals as goal

pub returns-then-c-lt64 : goal.returns-then-c-lt64
unfolding hex_value
returns-then-c-lt64 c = (simp (lt-ltb _ _ c.if-c-lt64.true), omega arith)

pub returns : goal.returns
unfolding hex_value
returns c = (simp (le-ltb _ _ c.if-c-lt64.false), omega arith)
