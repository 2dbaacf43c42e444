-- `digits::hex::two_digits` meets its contract: two digits, one after the other.
-- Assumes nothing.
use native.Mathlib.Omega.{arith}
use Rattle.digits.proofs.Laws.Hex.{byte-digits}
use Rattle.digits.proofs.hex.two_digits.Goals as goal

pub returns : goal.returns
returns c = byte-digits _ _ _ (omega arith) c.digit.ensures c.digit-2.ensures
