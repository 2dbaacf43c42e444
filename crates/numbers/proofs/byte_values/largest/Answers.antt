-- `numbers::byte_values::largest` meets its contract: width by width, signed and not.
-- Assumes nothing.
use Rattle.numbers.specs.Paper.ByteValues.{most}
use Rattle.numbers.proofs.Laws.Values.{is-four, end_is}
use Rattle.numbers.proofs.byte_values.largest.Goals as goal

pub returns-then-width-eq1 : goal.returns-then-width-eq1
returns-then-width-eq1 c = end_is most c.if-signed.true c.if-width-eq1.true

pub returns-then-width-eq2 : goal.returns-then-width-eq2
returns-then-width-eq2 c = end_is most c.if-signed.true c.if-width-eq2.true

pub returns-then-signed : goal.returns-then-signed
returns-then-signed c = end_is most c.if-signed.true (is-four c.requires c.if-width-eq1.false c.if-width-eq2.false)

pub returns-then-width-eq1-2 : goal.returns-then-width-eq1-2
returns-then-width-eq1-2 c = end_is most c.if-signed.false c.if-width-eq1-2.true

pub returns-then-width-eq2-2 : goal.returns-then-width-eq2-2
returns-then-width-eq2-2 c = end_is most c.if-signed.false c.if-width-eq2-2.true

pub returns : goal.returns
returns c = end_is most c.if-signed.false (is-four c.requires c.if-width-eq1-2.false c.if-width-eq2-2.false)
