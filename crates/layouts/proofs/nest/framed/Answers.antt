-- `layouts::nest::framed` meets its contract: each test that fails is the first, and what passes them all is a frame.
-- Assumes nothing.
use mathlib.Core.Path.{refl, sym, ◌∙◌}
use native.Mathlib.Omega.{arith}
use Rattle.layouts.specs.Paper.Layout.{all-agree, agree}
use Rattle.layouts.proofs.Laws.Buses.{answered-as, fails-start, fails-length, fails-first, passes-all}
use Rattle.layouts.proofs.Laws.Heads.{starts_with, not-starts, mark-inside}
use Rattle.layouts.proofs.Laws.Nest.{nest-bus, not-long, body-form, end-inside, end-six, end-two, end-payload, pair-there}
use Rattle.layouts.proofs.nest.framed.Goals as goal

pub returns-then-not-starts_with : goal.returns-then-not-starts_with
returns-then-not-starts_with c = answered-as c.from.ensures (fails-start (nest-bus c.args.preamble.now c.requires) c.args.s.now (not-starts c.args.preamble.now c.args.s.now (sym c.starts_with.ensures ∙ c.if-not-starts_with.true)))

pub slice_bounds-body-count : goal.slice_bounds-body-count
slice_bounds-body-count c = mark-inside c.args.preamble.now c.args.s.now (starts_with c.args.preamble.now c.args.s.now (sym c.starts_with.ensures ∙ c.if-not-starts_with.false))

pub slice_bounds-body-start : goal.slice_bounds-body-start
slice_bounds-body-start c = mark-inside c.args.preamble.now c.args.s.now (starts_with c.args.preamble.now c.args.s.now (sym c.starts_with.ensures ∙ c.if-not-starts_with.false))

pub returns-in_default : goal.returns-in_default
returns-in_default c = answered-as c.from-in_default.ensures (fails-length (nest-bus c.args.preamble.now c.requires) c.args.s.now (starts_with c.args.preamble.now c.args.s.now (sym c.starts_with.ensures ∙ c.if-not-starts_with.false)) (not-long c.args.preamble.now c.requires c.args.s.now (starts_with c.args.preamble.now c.args.s.now (sym c.starts_with.ensures ∙ c.if-not-starts_with.false)) _ refl (record { each = λ i. (c.type_inv.s i).fits }) c.in_default.ensures))

pub overflow_add-end : goal.overflow_add-end
overflow_add-end c = omega (arith, end-inside c.args.preamble.now c.requires c.args.s.now (starts_with c.args.preamble.now c.args.s.now (sym c.starts_with.ensures ∙ c.if-not-starts_with.false)) _ c.in-Some.ensures.0, c.well_formed)

pub slice_bounds-compared-end : goal.slice_bounds-compared-end
slice_bounds-compared-end c = end-inside c.args.preamble.now c.requires c.args.s.now (starts_with c.args.preamble.now c.args.s.now (sym c.starts_with.ensures ∙ c.if-not-starts_with.false)) _ c.in-Some.ensures.0

pub compared-check-requires : goal.compared-check-requires
compared-check-requires c = end-two c.args.preamble.now c.requires c.args.s.now (starts_with c.args.preamble.now c.args.s.now (sym c.starts_with.ensures ∙ c.if-not-starts_with.false)) _ c.in-Some.ensures.0 c.in-Some.ensures.1

pub returns-then-check : goal.returns-then-check
returns-then-check c = answered-as c.failing.ensures (fails-first (nest-bus c.args.preamble.now c.requires) c.args.s.now _ (body-form c.args.preamble.now c.requires c.args.s.now (starts_with c.args.preamble.now c.args.s.now (sym c.starts_with.ensures ∙ c.if-not-starts_with.false)) _ c.in-Some.ensures.0 c.in-Some.ensures.1) (omega (arith, c.requires)) (pair-there c.args.preamble.now c.requires c.args.s.now (starts_with c.args.preamble.now c.args.s.now (sym c.starts_with.ensures ∙ c.if-not-starts_with.false)) _ c.in-Some.ensures.0 c.compared-check.ensures) c.if-check.true)

pub overflow_sub-result : goal.overflow_sub-result
overflow_sub-result c = omega (arith, end-six c.args.preamble.now c.requires c.args.s.now (starts_with c.args.preamble.now c.args.s.now (sym c.starts_with.ensures ∙ c.if-not-starts_with.false)) _ c.in-Some.ensures.0 c.in-Some.ensures.1)

pub returns : goal.returns
returns c = passes-all (nest-bus c.args.preamble.now c.requires) c.args.s.now _ (body-form c.args.preamble.now c.requires c.args.s.now (starts_with c.args.preamble.now c.args.s.now (sym c.starts_with.ensures ∙ c.if-not-starts_with.false)) _ c.in-Some.ensures.0 c.in-Some.ensures.1) (omega (arith, c.requires)) (pair-there c.args.preamble.now c.requires c.args.s.now (starts_with c.args.preamble.now c.args.s.now (sym c.starts_with.ensures ∙ c.if-not-starts_with.false)) _ c.in-Some.ensures.0 c.compared-check.ensures) (agree c.if-check.false all-agree) refl (end-payload c.args.preamble.now c.requires c.args.s.now (starts_with c.args.preamble.now c.args.s.now (sym c.starts_with.ensures ∙ c.if-not-starts_with.false)) _ c.in-Some.ensures.0)
