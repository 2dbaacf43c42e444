-- `messages::homiq::allowed` meets its contract: what is found for the fields is it, or else it is above the rest, or outside.
-- Assumes nothing.
use mathlib.Core.Path.{sym, ◌∙◌}
use borrow.Author.Rules.{rules}
use denote.Enum.Bare.{same_true, same_false}
use Rattle.digits.proofs.Laws.Tests.{told, untold}
use Rattle.messages.specs.contracts.homiq.Homiq.{the_type}
use Rattle.messages.proofs.Laws.Allowed.{no_payload, homiq-same, homiq-above, homiq-other}
use Rattle.messages.proofs.homiq.allowed.Goals as goal

pub returns-then-not-is_payload : goal.returns-then-not-is_payload
returns-then-not-is_payload c = no_payload c.args.message (untold c.is_payload.ensures c.if-not-is_payload.true)

pub returns-then-eq : goal.returns-then-eq
returns-then-eq c =
    homiq-same c.args.message (told c.is_payload.ensures c.if-not-is_payload.false).1 c.message_of.ensures
    (same_true the_type (search rules) _ _ (sym c.eq.ensures ∙ c.if-eq.true))

pub returns-then-eq-2 : goal.returns-then-eq-2
returns-then-eq-2 c =
    homiq-above c.args.message (told c.is_payload.ensures c.if-not-is_payload.false).1 c.message_of.ensures
    (same_false the_type _ _ (sym c.eq.ensures ∙ c.if-eq.false)) (same_true the_type (search rules) _ _ (sym c.eq-2.ensures ∙ c.if-eq-2.true))

pub returns : goal.returns
returns c =
    homiq-other c.args.message (told c.is_payload.ensures c.if-not-is_payload.false).1 c.message_of.ensures
    (same_false the_type _ _ (sym c.eq.ensures ∙ c.if-eq.false)) (same_false the_type _ _ (sym c.eq-2.ensures ∙ c.if-eq-2.false))
