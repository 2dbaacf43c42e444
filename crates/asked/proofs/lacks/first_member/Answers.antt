-- `lacks::first_member` meets its contract. The loop's invariant: the text has the members passed.
-- Assumes nothing.
use native.Mathlib.Omega.{arith}
use Rattle.digits.proofs.Laws.Tests.{told, untold}
use Rattle.asked.proofs.Laws.Lacking.{at-start, one_more, lacks-it, at-end}
use Rattle.asked.proofs.Laws.Named.{most-members}
use Rattle.asked.proofs.lacks.first_member.Goals as goal

pub many-many-requires : goal.many-many-requires
many-many-requires c =
    c.requires

pub overflow_cast-many : goal.overflow_cast-many
overflow_cast-many c =
    omega (arith, c.many-many.ensures, most-members _ c.requires.1)

pub loop-i-init : goal.loop-i-init
loop-i-init c =
    at-start

pub has-requires : goal.has-requires
has-requires c =
    (c.requires.1, omega (arith, c.many-many.ensures))

pub returns-then-not-has : goal.returns-then-not-has
returns-then-not-has c =
    lacks-it c.loop-i.invariant (omega (arith, c.many-many.ensures)) (untold c.has.ensures c.if-not-has.true)

pub loop-i-preserved : goal.loop-i-preserved
loop-i-preserved c =
    one_more c.loop-i.invariant (omega (arith, c.many-many.ensures)) (told c.has.ensures c.if-not-has.false)

pub returns : goal.returns
returns c =
    at-end c.loop-i.invariant (omega (arith, c.many-many.ensures))
