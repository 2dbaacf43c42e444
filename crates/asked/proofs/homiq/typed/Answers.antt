-- `homiq::typed` meets its contract.
-- Assumes nothing.
use borrow.Author.Tests.{eq-eqb, ne_eqb}
use Rattle.layouts.specs.Paper.Chars.{one_of}
use Rattle.asked.proofs.homiq.typed.Goals as goal

pub returns-then-len-eq0 : goal.returns-then-len-eq0
returns-then-len-eq0 c = simp (eq-eqb _ _ c.if-len-eq0.true)

pub returns-then-first-eq115 : goal.returns-then-first-eq115
unfolding one_of
returns-then-first-eq115 c = simp (ne_eqb _ _ c.if-len-eq0.false, eq-eqb _ _ c.if-first-eq115.true)

pub returns-then-first-eq97 : goal.returns-then-first-eq97
unfolding one_of
returns-then-first-eq97 c =
    simp (ne_eqb _ _ c.if-len-eq0.false, ne_eqb _ _ c.if-first-eq115.false, eq-eqb _ _ c.if-first-eq97.true)

pub returns : goal.returns
unfolding one_of
returns c =
    simp (ne_eqb _ _ c.if-len-eq0.false, ne_eqb _ _ c.if-first-eq115.false, ne_eqb _ _ c.if-first-eq97.false)
