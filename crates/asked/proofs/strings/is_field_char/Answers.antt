-- `strings::is_field_char` meets its contract.
-- Assumes nothing.
use borrow.Author.Tests.{le-leb, lt-leb}
use Rattle.layouts.specs.Paper.Homiq.{field_char}
use Rattle.asked.proofs.Laws.Strings.{field-char}
use Rattle.asked.proofs.strings.is_field_char.Goals as goal

pub returns-then-c-lt33 : goal.returns-then-c-lt33
unfolding field_char
returns-then-c-lt33 c = simp (lt-leb _ _ c.if-c-lt33.true)

pub returns-then-c-gt126 : goal.returns-then-c-gt126
unfolding field_char
returns-then-c-gt126 c = simp (le-leb _ _ c.if-c-lt33.false, lt-leb _ _ c.if-c-gt126.true)

pub returns : goal.returns
returns c = field-char _ c.if-c-lt33.false c.if-c-gt126.false
