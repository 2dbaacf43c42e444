-- `checks::homiq::Crc::bytes` meets its contract: the engine has the check's polynomial, and is given all of the bytes.
-- Assumes nothing.
use mathlib.Core.Path.{ap, ◌∙◌}
use borrow.Author.Rules.{rules}
use Rattle.digits.proofs.Laws.Parts.{from_0}
use Rattle.checks.specs.Paper.Check.{feed}
use Rattle.checks.specs.Paper.Buses.{homiq_crc}
use Rattle.checks.proofs.homiq.Crc.bytes.Goals as goal

pub returns : goal.returns
returns c = c.bytes.ensures ∙ ap (feed homiq_crc c.args.self.value) (search (rules, from_0))
