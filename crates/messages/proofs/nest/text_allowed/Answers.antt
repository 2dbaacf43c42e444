-- `messages::nest::text_allowed` meets its contract: what is found for the id and the payload is it, or a message above it.
-- Assumes nothing.
use mathlib.Core.Bool.{true≢false}
use mathlib.Core.Path.{sym, ◌∙◌, subst}
use lib.Dec.{T}
use Rattle.digits.proofs.Laws.Tests.{T_true, told, untold}
use Rattle.messages.specs.Paper.Message.{text}
use Rattle.messages.proofs.Laws.Allowed.{only-outside, only_above, only_same, above-text, not-above-text}
use Rattle.messages.proofs.Laws.Given.{sized}
use Rattle.messages.specs.Paper.Table.{content_of, Limits}
use Rattle.messages.specs.Work.Look.{look}
use Rattle.messages.proofs.nest.text_allowed.Goals as goal

pub returns-then-not-is_text : goal.returns-then-not-is_text
returns-then-not-is_text c = only-outside (text c.args.id c.args.payload.now) (λ l. true≢false (sym (T_true _ l.0) ∙ sym c.is_text.ensures ∙ c.if-not-is_text.true))

pub returns-then-not-is_short : goal.returns-then-not-is_short
returns-then-not-is_short c = only-outside (text c.args.id c.args.payload.now) (λ l. untold c.is_short.ensures c.if-not-is_short.true l.1.short)

pub returns-in-Text : goal.returns-in-Text
unfolding look content_of
returns-in-Text c =
    let l : Limits (text c.args.id c.args.payload.now) =
    (subst T (sym (sym c.is_text.ensures ∙ c.if-not-is_text.false)) tt, sized (told c.is_short.ensures c.if-not-is_short.false) (record { each = λ i. (c.type_inv.payload i).fits })) in
    only_same (text c.args.id c.args.payload.now) l c.message.ensures (not-above-text c.message.result c.args.payload.now c.in-Text.is)

pub returns-in_default : goal.returns-in_default
unfolding look content_of
returns-in_default c =
    let l : Limits (text c.args.id c.args.payload.now) =
    (subst T (sym (sym c.is_text.ensures ∙ c.if-not-is_text.false)) tt, sized (told c.is_short.ensures c.if-not-is_short.false) (record { each = λ i. (c.type_inv.payload i).fits })) in
    only_above (text c.args.id c.args.payload.now) l c.message.ensures (above-text c.message.result c.args.payload.now c.in_default.not-Text c.in_default.not-Other)
