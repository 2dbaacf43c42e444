-- `messages::nibe::holds` meets its contract, width by width.
-- Assumes nothing.
use borrow.Author.Tests.{eq-eqb}
use mathlib.Core.Path.{sym, subst}
use native.Mathlib.Omega.{arith}
use Prim.Native.Nat.{ℕ}
use lib.Dec.{ltb}
use Rattle.std.proofs.lemmas.Bool.{eqb-true, ltb-true, lt-ltb}
use Rattle.digits.specs.Paper.LowFirst.{one, two, Held}
use Rattle.digits.specs.Paper.Read.{Decides}
use Rattle.messages.proofs.Laws.Given.{held_by, held-four}
use Rattle.messages.proofs.Laws.Telling.{tells}
use Rattle.messages.proofs.nibe.holds.Goals as goal

pub returns-in-1 : goal.returns-in-1
returns-in-1 c = subst (λ (w : ℕ). Decides (Held w c.args.value) (ltb c.args.value 256)) (sym c.in-1.is) (held_by one (tells _ (ltb-true _ _) (lt-ltb _ _)))

pub returns-in-2 : goal.returns-in-2
returns-in-2 c = subst (λ (w : ℕ). Decides (Held w c.args.value) (ltb c.args.value 65536)) (sym c.in-2.is) (held_by two (tells _ (ltb-true _ _) (lt-ltb _ _)))

pub returns-in_default : goal.returns-in_default
returns-in_default c = held-four (omega (arith, c.ranges.value)) (λ e. omega (arith, e)) (λ e. omega (arith, e)) (tells _ (eqb-true _ _) (eq-eqb _ _))
