-- `layouts::homiq::is_character` meets its contract: the tests one after the other are those of `field_char`.
-- Assumes nothing.
use borrow.Author.Tests.{eq-eqb, ne_eqb, le-leb, lt-leb}
use Rattle.layouts.specs.Paper.Chars.{one_of}
use Rattle.layouts.specs.Paper.Homiq.{field_char}
use Rattle.layouts.proofs.Laws.HomiqFields.{char-last}
use Rattle.layouts.proofs.homiq.is_character.Goals as goal

pub returns-then-c-lt33 : goal.returns-then-c-lt33
unfolding field_char
returns-then-c-lt33 c = simp (lt-leb _ _ c.if-c-lt33.true)

pub returns-then-c-gt126 : goal.returns-then-c-gt126
unfolding field_char
returns-then-c-gt126 c = simp (le-leb _ _ c.if-c-lt33.false, lt-leb _ _ c.if-c-gt126.true)

pub returns-then-c-eq59 : goal.returns-then-c-eq59
unfolding field_char one_of
returns-then-c-eq59 c = simp (le-leb _ _ c.if-c-lt33.false, le-leb _ _ c.if-c-gt126.false, eq-eqb _ _ c.if-c-eq59.true)

pub returns-then-c-eq60 : goal.returns-then-c-eq60
unfolding field_char one_of
returns-then-c-eq60 c = simp (le-leb _ _ c.if-c-lt33.false, le-leb _ _ c.if-c-gt126.false, ne_eqb _ _ c.if-c-eq59.false, eq-eqb _ _ c.if-c-eq60.true)

pub returns : goal.returns
returns c = char-last _ c.if-c-lt33.false c.if-c-gt126.false c.if-c-eq59.false c.if-c-eq60.false
