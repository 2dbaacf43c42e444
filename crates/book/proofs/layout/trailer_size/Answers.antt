-- `book::layout::trailer_size` meets its contract: four bytes for each offset, and six at the end.
-- Assumes nothing.
use mathlib.Core.Path.{refl}
use Rattle.book.proofs.layout.trailer_size.Goals as goal

pub returns : goal.returns
returns c = refl
