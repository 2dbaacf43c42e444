-- `rows::named` meets its contract.
-- Assumes nothing.
use mathlib.Core.Path.{ap, ◌∙◌}
use Prim.Native.Nat.{ℕ}
use Rattle.frames.proofs.Laws.Kinds.{resolved-known, resolved-unknown}
use Rattle.asked.specs.Work.Rows.{row_named}
use Rattle.asked.proofs.Laws.Named.{unknown-row}
use Rattle.asked.proofs.rows.named.Goals as goal

pub returns-in_err-of : goal.returns-in_err-of
returns-in_err-of c =
    rw c.from_residual.ensures (unknown-row _ _ (resolved-unknown c.of.ensures c.in_err-of.was))

pub returns : goal.returns
returns c =
    c.of_kind.ensures ∙ ap (λ (k : ℕ). row_named k c.args.name.now) (resolved-known c.of.ensures c.in_ok-of.was)
