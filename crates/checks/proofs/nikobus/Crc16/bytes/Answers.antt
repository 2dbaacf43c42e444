-- `checks::nikobus::Crc16::bytes` meets its contract: `feed` does not look at a check's start, and the engine is given all of the bytes.
-- Assumes nothing.
use mathlib.Core.Path.{ap, ◌∙◌}
use borrow.Author.Rules.{rules}
use Rattle.digits.proofs.Laws.Parts.{but_0}
use Rattle.checks.specs.Paper.Check.{poly_bits, feed}
use Rattle.checks.specs.Paper.Buses.{nikobus_crc16}
use Rattle.checks.proofs.nikobus.Crc16.bytes.Goals as goal

pub returns : goal.returns
unfolding feed poly_bits
returns c = c.bytes.ensures ∙ ap (feed nikobus_crc16 c.args.self.value) (search (rules, but_0))
