-- `messages::nest::response_allowed` meets its contract: what is found for the id and the payload is it, or a message above it.
-- Assumes nothing.
use native.Mathlib.Omega.{arith}
use Rattle.digits.proofs.Laws.Tests.{told, untold}
use Rattle.messages.specs.Paper.Message.{response}
use Rattle.messages.proofs.Laws.Allowed.{only-outside, only_above, only_same, above-response}
use Rattle.messages.proofs.Laws.Given.{sized}
use Rattle.messages.specs.Paper.Table.{content_of, Limits}
use Rattle.messages.specs.Work.Look.{look}
use Rattle.messages.proofs.nest.response_allowed.Goals as goal

pub returns-then-not-is_short : goal.returns-then-not-is_short
returns-then-not-is_short c = only-outside (response c.args.id c.args.payload.now) (λ l. untold c.is_short.ensures c.if-not-is_short.true l.1.short)

pub returns-in-Other : goal.returns-in-Other
unfolding look content_of
returns-in-Other c =
    let l : Limits (response c.args.id c.args.payload.now) =
    (c.ranges.id.fits, sized (told c.is_short.ensures c.if-not-is_short.false) (record { each = λ i. (c.type_inv.payload i).fits })) in
    only_same (response c.args.id c.args.payload.now) l c.in-Other.ensures (λ h. omega (arith, h))

pub returns-in_default : goal.returns-in_default
unfolding look content_of
returns-in_default c =
    let l : Limits (response c.args.id c.args.payload.now) =
    (c.ranges.id.fits, sized (told c.is_short.ensures c.if-not-is_short.false) (record { each = λ i. (c.type_inv.payload i).fits })) in
    only_above (response c.args.id c.args.payload.now) l c.message.ensures (above-response c.message.result c.args.payload.now c.in_default.not-Other)
