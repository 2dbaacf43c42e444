-- `digits::low_first::two` meets its contract: the library's bytes are those of document 01.
-- Assumes nothing.
use mathlib.Core.Path.{ap, ◌∙◌}
use native.Mathlib.Omega.{arith}
use Rattle.digits.specs.Paper.LowFirst.{low_byte_first}
use Rattle.digits.proofs.Laws.LowFirst.{low-bytes}
use Rattle.digits.proofs.low_first.two.Goals as goal

pub returns : goal.returns
returns c = c.to_le_bytes.ensures ∙ low-bytes 2 _ ∙ ap (low_byte_first 2) (omega arith)
