-- `layouts::homiq::crc_on` meets its contract: `without_separators` leaves out `;` and nothing else.
-- Assumes nothing.
use mathlib.Core.Path.{sym}
use native.Mathlib.Omega.{arith}
use borrow.Author.Tests.{eq-eqb, ne_eqb}
use Rattle.checks.specs.Paper.Buses.{homiq_crc}
use Rattle.checks.proofs.Laws.Feed.{feed-nil}
use Rattle.layouts.specs.Paper.Homiq.{without_separators}
use Rattle.layouts.proofs.homiq.crc_on.Goals as goal

pub returns-then-c-ne59 : goal.returns-then-c-ne59
unfolding without_separators
returns-then-c-ne59 c = simp (ne_eqb c.args.c 59 c.if-c-ne59.true) c.byte.ensures

pub returns : goal.returns
unfolding without_separators
returns c = simp (eq-eqb c.args.c 59 c.if-c-ne59.false) (sym (feed-nil homiq_crc _ (omega arith)))
