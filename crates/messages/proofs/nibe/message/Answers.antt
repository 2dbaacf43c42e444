-- `messages::nibe::message` meets its contract: the tests are the definition's, in its order.
-- Assumes nothing.
use mathlib.Core.Path.{sym, ◌∙◌}
use native.Mathlib.Omega.{arith}
use Rattle.messages.proofs.Laws.NibeLook.{ask-size, valued-size, done-size, look-ask, look-reply, look-put, look-done, look-nibe}
use Rattle.messages.proofs.nibe.message.Goals as goal

pub word-requires : goal.word-requires
word-requires c = omega (arith, ask-size _ c.args.content.now (sym c.is_ask.ensures ∙ c.if-is_ask.true))

pub returns-then-is_ask : goal.returns-then-is_ask
returns-then-is_ask c =
    look-ask _ c.args.content.now c.word.ensures
    (sym c.is_ask.ensures ∙ c.if-is_ask.true)

pub valued_in-requires : goal.valued_in-requires
valued_in-requires c =
    valued-size _ c.args.content.now 0x6A
    (sym c.is_valued.ensures ∙ c.if-is_valued.true)

pub returns-then-is_valued : goal.returns-then-is_valued
returns-then-is_valued c =
    look-reply _ c.args.content.now c.valued_in.ensures
    (sym c.is_ask.ensures ∙ c.if-is_ask.false)
    (sym c.is_valued.ensures ∙ c.if-is_valued.true)

pub valued_in-requires-then-is_valued-2 : goal.valued_in-requires-then-is_valued-2
valued_in-requires-then-is_valued-2 c =
    valued-size _ c.args.content.now 0x6B
    (sym c.is_valued-2.ensures ∙ c.if-is_valued-2.true)

pub returns-then-is_valued-2 : goal.returns-then-is_valued-2
returns-then-is_valued-2 c =
    look-put _ c.args.content.now c.valued_in-then-is_valued-2.ensures
    (sym c.is_ask.ensures ∙ c.if-is_ask.false)
    (sym c.is_valued.ensures ∙ c.if-is_valued.false)
    (sym c.is_valued-2.ensures ∙ c.if-is_valued-2.true)

pub bounds-content-0 : goal.bounds-content-0
bounds-content-0 c =
    omega
    (arith, done-size _ c.args.content.now (sym c.is_done.ensures ∙ c.if-is_done.true))

pub returns-then-is_done : goal.returns-then-is_done
returns-then-is_done c =
    look-done _ c.args.content.now
    (sym c.is_ask.ensures ∙ c.if-is_ask.false)
    (sym c.is_valued.ensures ∙ c.if-is_valued.false)
    (sym c.is_valued-2.ensures ∙ c.if-is_valued-2.false)
    (sym c.is_done.ensures ∙ c.if-is_done.true)

pub returns : goal.returns
returns c =
    look-nibe _ c.args.content.now
    (sym c.is_ask.ensures ∙ c.if-is_ask.false)
    (sym c.is_valued.ensures ∙ c.if-is_valued.false)
    (sym c.is_valued-2.ensures ∙ c.if-is_valued-2.false) (sym c.is_done.ensures ∙ c.if-is_done.false)
