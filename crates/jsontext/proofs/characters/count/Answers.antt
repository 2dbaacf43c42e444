-- `characters::count` meets its contract: there are no more units than fit.
-- Assumes nothing.
use native.Mathlib.Omega.{arith}
use mathlib.Core.Logic.{inl}
use mathlib.Core.Path.{ap}
use lib.ListN.{length}
use Rattle.jsontext.proofs.Laws.Narrow.{name-length}
use Rattle.jsontext.proofs.characters.count.Goals as goal

pub count-requires-clause-fits : goal.count-requires-clause-fits
count-requires-clause-fits c = inl (omega (arith, ap length c.of.ensures, name-length c.args.text.now, c.well_formed))
