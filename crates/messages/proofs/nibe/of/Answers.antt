-- `messages::nibe::of` meets its contract: by the command and the length, and else the message of the data is the one.
-- Assumes nothing.
use mathlib.Core.Bool.{true≢false}
use mathlib.Core.Path.{sym, ◌∙◌, subst}
use native.Mathlib.Omega.{arith}
use lib.Dec.{T}
use Rattle.digits.proofs.Laws.Tests.{T_true}
use Rattle.messages.proofs.Laws.Meant.{nibe-not-meant, nibe-meant}
use Rattle.messages.proofs.nibe.of.Goals as goal

pub returns-then-not-is_command : goal.returns-then-not-is_command
returns-then-not-is_command c = nibe-not-meant (λ l. true≢false (sym (T_true _ l.0) ∙ sym c.is_command.ensures ∙ c.if-not-is_command.true))

pub returns-then-content-gt-MOST : goal.returns-then-content-gt-MOST
returns-then-content-gt-MOST c = nibe-not-meant (λ l. omega (arith, l.1, c.if-content-gt-MOST.true))

pub returns : goal.returns
returns c = nibe-meant (subst T (sym (sym c.is_command.ensures ∙ c.if-not-is_command.false)) tt) (omega (arith, c.if-content-gt-MOST.false)) (record { each = λ i. (c.type_inv.content i).fits }) c.message.ensures
