-- `numbers::byte_values::stands_below_zero` meets its contract: where signed, the half decides.
-- Assumes nothing.
use mathlib.Core.Path.{sym, ap, ◌∙◌}
use mathlib.Core.Bool.{Bool}
use Prim.Native.Nat.{ℕ, ◌*◌}
use lib.Dec.{leb}
use Rattle.numbers.specs.Paper.ByteValues.{stands_below}
use Rattle.numbers.proofs.byte_values.stands_below_zero.Goals as goal

pub returns-then-signed : goal.returns-then-signed
returns-then-signed c = ap (λ (x : ℕ). leb x (2 * c.args.n)) c.all.ensures ∙ ap (λ (b : Bool). stands_below c.args.width b c.args.n) (sym c.if-signed.true)
