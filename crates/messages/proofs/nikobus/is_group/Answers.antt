-- `messages::nikobus::is_group` meets its contract: group by group.
-- Assumes nothing.
use borrow.Author.Tests.{eq-eqb}
use mathlib.Core.Logic.{inl, inr, ⊎_elim}
use Rattle.std.proofs.lemmas.Bool.{eqb-true}
use Rattle.messages.proofs.Laws.Telling.{tells}
use Rattle.messages.proofs.nikobus.is_group.Goals as goal

pub returns-then-group-eq1 : goal.returns-then-group-eq1
returns-then-group-eq1 c = tells _ (λ e. inl c.if-group-eq1.true) (λ g. eq-eqb _ _ c.if-group-eq1.true)

pub returns-else-group-eq1 : goal.returns-else-group-eq1
returns-else-group-eq1 c = tells _ (λ e. inr (eqb-true _ _ e)) (λ g. eq-eqb _ _ (⊎_elim (λ x. absurd (c.if-group-eq1.false x)) (λ x. x) g))
