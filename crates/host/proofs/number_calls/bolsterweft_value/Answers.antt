-- `host::number_calls::bolsterweft_value` meets its contract: it is `byte_values::write`.
-- Assumes nothing.
use mathlib.Core.Bool.{not}
use lib.Dec.{eqb}
use lib.IntN.{ℤ}
use lib.ListN.{length}
use Rattle.puts.specs.Paper.Wrote.{Writes}
use Rattle.numbers.specs.Paper.ByteValues.{value_bytes}
use Rattle.numbers.specs.Paper.Answers.{ValueCause}
use Rattle.numbers.proofs.Laws.Signs.{said}
use Rattle.host.proofs.number_calls.bolsterweft_value.Goals as goal

pub returns : goal.returns
returns c =
    rw (c.counted.ensures.0, c.counted.ensures.1)
    (said (λ (y : ℤ). Writes (ValueCause c.args.width (not (eqb c.args.is_signed 0)) y (length c.args.room.now)) (value_bytes c.args.width y) c.args.room.now c.write.result c.write.new.room) c.args.raw c.ranges.raw c.write.ensures)
