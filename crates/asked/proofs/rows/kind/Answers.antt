-- `rows::kind` meets its contract.
-- Assumes nothing.
use mathlib.Core.Path.{◌∙◌}
use borrow.Author.Tests.{le-leb, lt-leb, ne_eqb}
use Rattle.asked.proofs.Laws.Named.{kind-is}
use Rattle.asked.proofs.rows.kind.Goals as goal

pub returns-then-row-le6 : goal.returns-then-row-le6
returns-then-row-le6 c = kind-is _ _ c.requires.0 c.requires.1 (c.number.ensures ∙ simp (le-leb _ _ c.if-row-le6.true))

pub returns-then-row-le13 : goal.returns-then-row-le13
returns-then-row-le13 c =
    kind-is _ _ c.requires.0 c.requires.1
    (c.number-then-row-le13.ensures ∙ simp (lt-leb _ _ c.if-row-le6.false, ne_eqb _ _ c.if-row-eq7.false, le-leb _ _ c.if-row-le13.true))

pub returns-then-row-le18 : goal.returns-then-row-le18
returns-then-row-le18 c =
    kind-is _ _ c.requires.0 c.requires.1
    (c.number-then-row-le18.ensures ∙ simp (lt-leb _ _ c.if-row-le6.false, ne_eqb _ _ c.if-row-eq7.false, lt-leb _ _ c.if-row-le13.false, le-leb _ _ c.if-row-le18.true))

pub returns : goal.returns
returns c =
    kind-is _ _ c.requires.0 c.requires.1
    (c.number-2.ensures ∙ simp (lt-leb _ _ c.if-row-le6.false, ne_eqb _ _ c.if-row-eq7.false, lt-leb _ _ c.if-row-le13.false, lt-leb _ _ c.if-row-le18.false))
