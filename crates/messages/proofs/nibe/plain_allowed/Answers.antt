-- `messages::nibe::plain_allowed` meets its contract: what is found for the command and the data is it, or a message above it.
-- Assumes nothing.
use native.Mathlib.Omega.{arith}
use mathlib.Core.Bool.{true≢false}
use mathlib.Core.Path.{sym, ◌∙◌, subst}
use lib.Dec.{T}
use Rattle.digits.proofs.Laws.Tests.{T_true}
use Rattle.messages.specs.Paper.Message.{nibe}
use Rattle.messages.proofs.Laws.Allowed.{only-outside, only_above, only_same, above-nibe}
use Rattle.messages.proofs.Laws.Given.{sized}
use Rattle.messages.specs.Paper.Table.{content_of, Limits}
use Rattle.messages.specs.Work.Look.{look}
use Rattle.messages.proofs.nibe.plain_allowed.Goals as goal

pub returns-then-not-is_command : goal.returns-then-not-is_command
returns-then-not-is_command c = only-outside (nibe c.args.command c.args.content.now) (λ l. true≢false (sym (T_true _ l.0) ∙ sym c.is_command.ensures ∙ c.if-not-is_command.true))

pub returns-then-content-gt-MOST : goal.returns-then-content-gt-MOST
returns-then-content-gt-MOST c = only-outside (nibe c.args.command c.args.content.now) (λ l. omega (arith, l.1.short, c.if-content-gt-MOST.true))

pub returns-in-Other : goal.returns-in-Other
unfolding look content_of
returns-in-Other c =
    let l : Limits (nibe c.args.command c.args.content.now) =
    (subst T (sym (sym c.is_command.ensures ∙ c.if-not-is_command.false)) tt, sized (omega (arith, c.if-content-gt-MOST.false)) (record { each = λ i. (c.type_inv.content i).fits })) in
    only_same (nibe c.args.command c.args.content.now) l c.in-Other.ensures (λ h. omega (arith, h))

pub returns-in_default : goal.returns-in_default
unfolding look content_of
returns-in_default c =
    let l : Limits (nibe c.args.command c.args.content.now) =
    (subst T (sym (sym c.is_command.ensures ∙ c.if-not-is_command.false)) tt, sized (omega (arith, c.if-content-gt-MOST.false)) (record { each = λ i. (c.type_inv.content i).fits })) in
    only_above (nibe c.args.command c.args.content.now) l c.message.ensures (above-nibe c.message.result c.args.content.now c.in_default.not-Other)
