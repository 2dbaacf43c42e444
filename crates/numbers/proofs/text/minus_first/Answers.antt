-- `numbers::text::minus_first` meets its contract: there is a first character, or there is none.
-- Assumes nothing.
use Rattle.numbers.proofs.Laws.Reader.{minus-at, minus-none}
use Rattle.numbers.proofs.text.minus_first.Goals as goal

pub returns-then-t-gt0 : goal.returns-then-t-gt0
returns-then-t-gt0 c = minus-at c.args.t.now c.if-t-gt0.true

pub returns : goal.returns
returns c = minus-none c.args.t.now c.if-t-gt0.false
