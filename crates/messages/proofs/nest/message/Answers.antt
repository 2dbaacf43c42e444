-- `messages::nest::message` meets its contract: the tests, from the top.
-- Assumes nothing.
use mathlib.Core.Bool.{false}
use mathlib.Core.Path.{◌≡◌, sym, ap, ap₂, ◌∙◌}
use native.Mathlib.Omega.{arith}
use lib.ListN.{length}
use lib.IntN.{ℤ}
use mir.Syntax.{w16}
use mir.Val.{to_z, of_z}
use Rattle.digits.specs.Paper.Bytes.{Bytes}
use Rattle.messages.specs.Paper.Message.{climate}
use Rattle.messages.specs.Work.Look.{look_response, is_climate, is_state, is_break, is_end}
use Rattle.messages.proofs.Laws.Responses.{climate-four, signed_back}
use Rattle.messages.proofs.nest.message.Goals as goal

pub signed_at-requires : goal.signed_at-requires
signed_at-requires c =
    let four : length c.args.payload.now ≡ 4 = climate-four _ _ (sym c.is_climate.ensures ∙ c.if-is_climate.true) in
    omega (arith, four)

pub word-requires : goal.word-requires
word-requires c =
    let four : length c.args.payload.now ≡ 4 = climate-four _ _ (sym c.is_climate.ensures ∙ c.if-is_climate.true) in
    omega (arith, four)

pub returns-then-is_climate : goal.returns-then-is_climate
unfolding look_response
returns-then-is_climate c =
    let b : Bytes c.args.payload.now = record { each = λ i. (c.type_inv.payload i).fits } in
    simp (sym c.is_climate.ensures ∙ c.if-is_climate.true)
    (ap₂ climate (ap (λ (z : ℤ). to_z w16 (of_z w16 z)) c.signed_at.ensures ∙ signed_back 0 c.args.payload.now b) c.word.ensures)

pub returns-then-is_state : goal.returns-then-is_state
unfolding look_response
returns-then-is_state c =
    let no-climate : is_climate c.args.id c.args.payload.now ≡ false = sym c.is_climate.ensures ∙ c.if-is_climate.false in
    simp (no-climate, sym c.is_state.ensures ∙ c.if-is_state.true)

pub returns-then-is_break : goal.returns-then-is_break
unfolding look_response
returns-then-is_break c =
    let no-climate : is_climate c.args.id c.args.payload.now ≡ false = sym c.is_climate.ensures ∙ c.if-is_climate.false in
    let no-state : is_state c.args.id c.args.payload.now ≡ false = sym c.is_state.ensures ∙ c.if-is_state.false in
    simp (no-climate, no-state, sym c.is_break.ensures ∙ c.if-is_break.true)

pub returns-then-is_end : goal.returns-then-is_end
unfolding look_response
returns-then-is_end c =
    let no-climate : is_climate c.args.id c.args.payload.now ≡ false = sym c.is_climate.ensures ∙ c.if-is_climate.false in
    let no-state : is_state c.args.id c.args.payload.now ≡ false = sym c.is_state.ensures ∙ c.if-is_state.false in
    let no-break : is_break c.args.id c.args.payload.now ≡ false = sym c.is_break.ensures ∙ c.if-is_break.false in
    simp (no-climate, no-state, no-break, sym c.is_end.ensures ∙ c.if-is_end.true)

pub returns-then-is_text : goal.returns-then-is_text
unfolding look_response
returns-then-is_text c =
    let no-climate : is_climate c.args.id c.args.payload.now ≡ false = sym c.is_climate.ensures ∙ c.if-is_climate.false in
    let no-state : is_state c.args.id c.args.payload.now ≡ false = sym c.is_state.ensures ∙ c.if-is_state.false in
    let no-break : is_break c.args.id c.args.payload.now ≡ false = sym c.is_break.ensures ∙ c.if-is_break.false in
    let no_end : is_end c.args.id c.args.payload.now ≡ false = sym c.is_end.ensures ∙ c.if-is_end.false in
    simp (no-climate, no-state, no-break, no_end, sym c.is_text.ensures ∙ c.if-is_text.true)

pub returns : goal.returns
unfolding look_response
returns c =
    let no-climate : is_climate c.args.id c.args.payload.now ≡ false = sym c.is_climate.ensures ∙ c.if-is_climate.false in
    let no-state : is_state c.args.id c.args.payload.now ≡ false = sym c.is_state.ensures ∙ c.if-is_state.false in
    let no-break : is_break c.args.id c.args.payload.now ≡ false = sym c.is_break.ensures ∙ c.if-is_break.false in
    let no_end : is_end c.args.id c.args.payload.now ≡ false = sym c.is_end.ensures ∙ c.if-is_end.false in
    simp (no-climate, no-state, no-break, no_end, sym c.is_text.ensures ∙ c.if-is_text.false)
