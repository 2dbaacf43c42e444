-- `lines::of` meets its contract: the message is one of the table, or it is refused.
-- Assumes nothing.
use native.Mathlib.Omega.{arith}
use Rattle.lines.proofs.Laws.Of.{one-says, allowed-line, not-allowed, said-placed}
use Rattle.lines.proofs.Laws.Sizes.{line-bounded}
use Rattle.lines.proofs.Laws.Types.{no-types}
use Rattle.lines.proofs.of.Goals as goal

pub placed-requires : goal.placed-requires
placed-requires c =
    line-bounded no-types c.args.message c.args.content.now (omega (arith, c.well_formed)) (omega (arith, c.well_formed)) (allowed-line c.args.message c.args.content.now c.in-Ok.ensures)

pub returns-in-Ok : goal.returns-in-Ok
returns-in-Ok c =
    said-placed (one-says c.args.message c.args.content.now) (allowed-line c.args.message c.args.content.now c.in-Ok.ensures) c.placed.ensures

pub returns-in-Err : goal.returns-in-Err
returns-in-Err c = not-allowed c.args.message c.args.content.now _ c.in-Err.ensures
