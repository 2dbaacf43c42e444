-- `numbers::text::number_in` meets its contract: the loop's invariant is `Valued`.
-- Assumes nothing.
use mathlib.Core.Path.{refl}
use native.Mathlib.Omega.{arith}
use Rattle.numbers.proofs.Laws.Reader.{valued-next, valued-end, valued-lt}
use Rattle.numbers.proofs.text.number_in.Goals as goal

pub loop-c-init : goal.loop-c-init
loop-c-init c = record { passed = omega arith; small = omega arith; rest = refl }

pub stepped-n-requires : goal.stepped-n-requires
stepped-n-requires c = omega (arith, valued-lt c.loop-c.invariant c.requires)

pub loop-c-preserved : goal.loop-c-preserved
loop-c-preserved c = rw c.stepped-n.ensures (valued-next c.loop-c.invariant c.loop-c-test.true)

pub returns : goal.returns
returns c = (valued-end c.loop-c.invariant c.loop-c-test.false, valued-lt c.loop-c.invariant c.requires)
