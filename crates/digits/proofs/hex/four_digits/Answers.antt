-- `digits::hex::four_digits` meets its contract: the digits of two bytes, one after the other.
-- Assumes nothing.
use Rattle.digits.proofs.Laws.Hex.{word_bytes}
use Rattle.digits.proofs.hex.four_digits.Goals as goal

pub returns : goal.returns
returns c = word_bytes _ _ _ c.two_digits-high.ensures c.two_digits-low.ensures
