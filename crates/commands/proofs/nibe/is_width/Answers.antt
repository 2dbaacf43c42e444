-- `commands::nibe::is_width` meets its contract, width by width.
-- Assumes nothing.
use mathlib.Core.Path.{sym, subst}
use native.Mathlib.Omega.{arith}
use Rattle.digits.proofs.Laws.LowFirst.{no-width}
use Rattle.digits.specs.Paper.LowFirst.{Width, four}
use Rattle.digits.specs.Paper.Read.{holds, fails}
use Rattle.commands.proofs.Laws.Widths.{one-or-two}
use Rattle.commands.proofs.nibe.is_width.Goals as goal

pub returns-in-1 : goal.returns-in-1
returns-in-1 c = holds (subst Width (sym c.in-1.is) four)

pub returns-in-1-2 : goal.returns-in-1-2
returns-in-1-2 c = holds (one-or-two (omega arith) (omega arith))

pub returns-in_default : goal.returns-in_default
returns-in_default c = fails (no-width (λ e. omega (arith, e)) (λ e. omega (arith, e)) (λ e. omega (arith, e)))

pub returns-in_default-2 : goal.returns-in_default-2
returns-in_default-2 c = fails (no-width (λ e. omega (arith, e)) (λ e. omega (arith, e)) (λ e. omega (arith, e)))
