-- `numbers::text::write` meets its contract: each refusal by its test, in order, and else the text is written whole or not at all.
-- Assumes nothing.
use mathlib.Core.Path.{ap, ◌∙◌}
use lib.IntN.{ℤ}
use Rattle.numbers.specs.Paper.Text.{text}
use Rattle.numbers.proofs.Laws.Signs.{read_back}
use Rattle.numbers.proofs.Laws.Writing.{bad-decimals, bad-range, text-fronted}
use Rattle.numbers.proofs.Laws.Range.{refused, passed}
use Rattle.numbers.proofs.text.write.Goals as goal

pub returns-then-not-few : goal.returns-then-not-few
returns-then-not-few c = bad-decimals c.args.raw c.args.decimals c.args.room.now c.if-not-few.true

pub returns-then-not-in_range : goal.returns-then-not-in_range
returns-then-not-in_range c =
    bad-range c.args.raw c.args.decimals c.args.room.now c.if-not-few.false (refused c.ranges.raw c.in_range-in_range.ensures c.if-not-in_range.true)

pub returns : goal.returns
returns c =
    text-fronted c.args.raw c.args.decimals c.args.room.now c.if-not-few.false (passed c.ranges.raw c.in_range-in_range.ensures c.if-not-in_range.false) c.front.result
    (c.text_of-t.ensures.front ∙ ap (λ (y : ℤ). text y c.args.decimals) (read_back c.args.raw c.ranges.raw)) c.front.ensures
