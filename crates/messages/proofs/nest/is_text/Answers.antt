-- `messages::nest::is_text` meets its contract: the three tests.
-- Assumes nothing.
use mathlib.Core.Bool.{or-false}
use borrow.Author.Tests.{eq-eqb, ne_eqb}
use Rattle.layouts.specs.Paper.Chars.{one_of}
use Rattle.messages.proofs.nest.is_text.Goals as goal

pub returns-then-id-eq1 : goal.returns-then-id-eq1
unfolding one_of
returns-then-id-eq1 c = simp (eq-eqb _ _ c.if-id-eq1.true)

pub returns-then-id-eq24 : goal.returns-then-id-eq24
unfolding one_of
returns-then-id-eq24 c = simp (ne_eqb _ _ c.if-id-eq1.false, eq-eqb _ _ c.if-id-eq24.true)

pub returns-else-id-eq24 : goal.returns-else-id-eq24
unfolding one_of
returns-else-id-eq24 c = simp (ne_eqb _ _ c.if-id-eq1.false, ne_eqb _ _ c.if-id-eq24.false, or-false)
