-- `readings::is_text` meets its contract: a room of 12 is enough for any text.
-- Assumes nothing.
use mathlib.Core.Path.{refl}
use lib.IntN.{nat_abs}
use Rattle.digits.proofs.Laws.Parts.{part-front}
use Rattle.json_values.proofs.Laws.Raws.{text-within, text-front, never-refused}
use Rattle.numbers.proofs.Laws.Signs.{magnitude-lt}
use Rattle.numbers.proofs.Laws.Text.{text-short}
use Rattle.numbers.specs.Paper.Text.{below_zero}
use Rattle.asked.proofs.Laws.Agree.{string-read, string-unread, same-string}
use Rattle.asked.proofs.readings.is_text.Goals as goal

pub returns-in_default : goal.returns-in_default
returns-in_default c =
    string-unread c.in_default.ensures.reads
    (λ y. text-short (below_zero c.args.raw) (nat_abs c.args.raw) c.args.decimals (magnitude-lt c.args.raw c.requires.0) c.requires.1)

pub slice_bounds-same-end-2 : goal.slice_bounds-same-end-2
slice_bounds-same-end-2 c =
    text-within c.args.raw c.args.decimals c.ranges.raw c.requires.0 c.requires.1 _ _ _ refl c.write.ensures _ c.in-Ok-write.is

pub returns : goal.returns
returns c =
    let f = text-front c.args.raw c.args.decimals c.ranges.raw c.requires.0 c.requires.1 _ _ _ refl c.write.ensures _ c.in-Ok-write.is in
    same-string (string-read c.in-Ok.ensures.reads) (part-front c.in-Ok.len c.chars.new.room) f c.same.ensures

pub returns-in_default-write : goal.returns-in_default-write
returns-in_default-write c =
    absurd (never-refused c.args.raw c.args.decimals c.ranges.raw c.requires.0 c.requires.1 _ _ _ refl c.write.ensures _ c.in_default-write.is)
