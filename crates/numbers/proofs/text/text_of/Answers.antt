-- `numbers::text::text_of` meets its contract: a raw number's text has room in twelve characters.
-- Assumes nothing.
use mathlib.Core.Path.{refl}
use Rattle.numbers.proofs.Laws.Text.{at_front, text-put}
use Rattle.numbers.proofs.Laws.Signs.{back, read_back}
use Rattle.numbers.proofs.text.text_of.Goals as goal

pub returns : goal.returns
returns c =
    at_front c.args.raw c.args.decimals c.requires.0 c.requires.1 refl
    (text-put (back c.args.raw) c.args.raw c.args.decimals c.below_zero.ensures c.magnitude.ensures (read_back c.args.raw c.ranges.raw) c.put-len.ensures)
