-- `strings::is_short` meets its contract.
-- Assumes nothing.
use borrow.Author.Tests.{ne_eqb}
use Rattle.jsontext.specs.Work.Tight.{is_short}
use Rattle.jsontext.proofs.strings.is_short.Goals as goal

pub returns-then-b-eq34 : goal.returns-then-b-eq34
unfolding is_short
returns-then-b-eq34 c = rw c.if-b-eq34.true

pub returns-then-b-eq92 : goal.returns-then-b-eq92
unfolding is_short
returns-then-b-eq92 c = rw c.if-b-eq92.true

pub returns-then-b-eq47 : goal.returns-then-b-eq47
unfolding is_short
returns-then-b-eq47 c = rw c.if-b-eq47.true

pub returns-then-b-eq98 : goal.returns-then-b-eq98
unfolding is_short
returns-then-b-eq98 c = rw c.if-b-eq98.true

pub returns-then-b-eq102 : goal.returns-then-b-eq102
unfolding is_short
returns-then-b-eq102 c = rw c.if-b-eq102.true

pub returns-then-b-eq110 : goal.returns-then-b-eq110
unfolding is_short
returns-then-b-eq110 c = rw c.if-b-eq110.true

pub returns-then-b-eq114 : goal.returns-then-b-eq114
unfolding is_short
returns-then-b-eq114 c = rw c.if-b-eq114.true

pub returns-then-b-eq116 : goal.returns-then-b-eq116
unfolding is_short
returns-then-b-eq116 c = rw c.if-b-eq116.true

pub returns : goal.returns
unfolding is_short
returns c = simp (ne_eqb c.args.b 0x22 c.if-b-eq34.false, ne_eqb c.args.b 0x5C c.if-b-eq92.false, ne_eqb c.args.b 0x2F c.if-b-eq47.false, ne_eqb c.args.b 0x62 c.if-b-eq98.false, ne_eqb c.args.b 0x66 c.if-b-eq102.false, ne_eqb c.args.b 0x6E c.if-b-eq110.false, ne_eqb c.args.b 0x72 c.if-b-eq114.false, ne_eqb c.args.b 0x74 c.if-b-eq116.false)
