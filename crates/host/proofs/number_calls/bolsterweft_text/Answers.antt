-- `host::number_calls::bolsterweft_text` meets its contract: it is `text::write`.
-- Assumes nothing.
use lib.IntN.{ℤ}
use lib.ListN.{length}
use Rattle.puts.specs.Paper.Wrote.{Writes}
use Rattle.numbers.specs.Paper.Text.{text}
use Rattle.numbers.specs.Paper.Answers.{TextCause}
use Rattle.numbers.proofs.Laws.Signs.{said}
use Rattle.host.proofs.number_calls.bolsterweft_text.Goals as goal

pub returns : goal.returns
returns c =
    rw (c.counted.ensures.0, c.counted.ensures.1)
    (said (λ (y : ℤ). Writes (TextCause y c.args.decimals (length c.args.room.now)) (text y c.args.decimals) c.args.room.now c.write.result c.write.new.room) c.args.raw c.ranges.raw c.write.ensures)
