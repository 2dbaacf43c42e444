-- `checks::nibe::Xor::byte` meets its contract: the check with the polynomial x^8 + 1 is the exclusive or.
-- Assumes nothing.
use native.Mathlib.Omega.{arith}
use Rattle.checks.proofs.Laws.Rotate.{feed-xor}
use Rattle.checks.proofs.nibe.Xor.byte.Goals as goal

pub returns : goal.returns
returns c = feed-xor c.args.self.value c.args.b (omega arith) (omega arith)
