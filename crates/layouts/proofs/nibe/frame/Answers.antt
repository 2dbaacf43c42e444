-- `layouts::nibe::frame` meets its contract: each test that fails is the first, and what passes them all is a frame.
-- Assumes nothing.
use mathlib.Core.Path.{refl, sym, ◌∙◌}
use native.Mathlib.Omega.{arith}
use Rattle.layouts.specs.Paper.Layout.{all-agree, agree}
use Rattle.layouts.proofs.Laws.Buses.{answered-as, fails-start, fails-length, fails-fields, fails-first, passes-all}
use Rattle.layouts.proofs.Laws.Nibe.{nibe-bus, mark-missing, mark-other, mark-there, not-long, is-long, no-command, claim-inside, claim-four, claim-form, claim-end, pair-there}
use Rattle.layouts.proofs.nibe.frame.Goals as goal

pub returns-then-s-eq0 : goal.returns-then-s-eq0
returns-then-s-eq0 c = answered-as c.from.ensures (fails-start nibe-bus c.args.s.now (mark-missing c.args.s.now c.if-s-eq0.true))

pub returns-then-s : goal.returns-then-s
returns-then-s c = answered-as c.from-then-s.ensures (fails-start nibe-bus c.args.s.now (mark-other c.args.s.now c.if-s.true))

pub returns-in_default : goal.returns-in_default
returns-in_default c = answered-as c.from-in_default.ensures (fails-length nibe-bus c.args.s.now (mark-there c.args.s.now c.if-s-eq0.false c.if-s.false) (not-long c.args.s.now c.in_default.ensures))

pub bounds-s-1 : goal.bounds-s-1
bounds-s-1 c = omega (arith, is-long c.args.s.now _ c.in-Some.ensures)

pub returns-then-not-is_command : goal.returns-then-not-is_command
returns-then-not-is_command c = answered-as c.from-then-not-is_command.ensures (fails-fields nibe-bus c.args.s.now (mark-there c.args.s.now c.if-s-eq0.false c.if-s.false) (is-long c.args.s.now _ c.in-Some.ensures) (no-command c.args.s.now (sym c.is_command.ensures ∙ c.if-not-is_command.true)))

pub slice_bounds-compared-end : goal.slice_bounds-compared-end
slice_bounds-compared-end c = claim-inside c.args.s.now _ c.in-Some.ensures

pub compared-check-requires : goal.compared-check-requires
compared-check-requires c = claim-four c.args.s.now _ c.in-Some.ensures

pub returns-then-check : goal.returns-then-check
returns-then-check c = answered-as c.failing.ensures (fails-first nibe-bus c.args.s.now _ (claim-form c.args.s.now _ c.in-Some.ensures (record { each = λ i. (c.shared_slice_known-1.given i).fits }) c.if-s.false (sym c.is_command.ensures ∙ c.if-not-is_command.false)) c.in-Some.ensures.1 (pair-there c.args.s.now c.in-Some.n c.compared-check.ensures) c.if-check.true)

pub overflow_sub-result : goal.overflow_sub-result
overflow_sub-result c = omega (arith, c.in-Some.ensures)

pub returns : goal.returns
returns c = passes-all nibe-bus c.args.s.now _ (claim-form c.args.s.now _ c.in-Some.ensures (record { each = λ i. (c.shared_slice_known-1.given i).fits }) c.if-s.false (sym c.is_command.ensures ∙ c.if-not-is_command.false)) c.in-Some.ensures.1 (pair-there c.args.s.now c.in-Some.n c.compared-check.ensures) (agree c.if-check.false all-agree) refl (claim-end c.args.s.now _ c.in-Some.ensures)
