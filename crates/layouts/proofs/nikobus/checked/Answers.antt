-- `layouts::nikobus::checked` meets its contract: the first check that fails is told, and a link that passes both is a frame.
-- Assumes nothing.
use mathlib.Core.Path.{refl}
use native.Mathlib.Omega.{arith}
use Rattle.layouts.specs.Paper.Layout.{all-agree, agree}
use Rattle.layouts.proofs.Laws.Buses.{answered-as, fails-first, fails-second, passes-all}
use Rattle.layouts.proofs.Laws.Nikobus.{nikobus-bus, form-inside, form-long, form-ten, form-hex, link-found, pairs-there, link-from, link-to}
use Rattle.layouts.proofs.nikobus.checked.Goals as goal

pub slice_bounds-compared16-end : goal.slice_bounds-compared16-end
slice_bounds-compared16-end c = form-inside c.args.s.now _ c.requires.n_value

pub compared16-first-requires : goal.compared16-first-requires
compared16-first-requires c = record { in_bounds = form-long c.args.s.now _ c.requires.n_value c.requires.n_nonzero; t = form-hex c.args.s.now _ c.requires.n_value c.requires.n_nonzero }

pub returns-then-first : goal.returns-then-first
returns-then-first c = answered-as c.failing.ensures (fails-first nikobus-bus c.args.s.now _ (link-found c.args.s.now _ c.requires.n_value c.requires.n_nonzero) c.requires.n_nonzero (pairs-there c.args.s.now _ c.requires.n_value c.requires.n_nonzero c.compared16-first.ensures refl) c.if-first.true)

pub slice_bounds-compared8-end : goal.slice_bounds-compared8-end
slice_bounds-compared8-end c = form-inside c.args.s.now _ c.requires.n_value

pub compared8-second-requires : goal.compared8-second-requires
compared8-second-requires c = record { in_bounds = form-long c.args.s.now _ c.requires.n_value c.requires.n_nonzero; t = form-hex c.args.s.now _ c.requires.n_value c.requires.n_nonzero }

pub returns-then-second : goal.returns-then-second
returns-then-second c = answered-as c.failing-then-second.ensures (fails-second nikobus-bus c.args.s.now _ (link-found c.args.s.now _ c.requires.n_value c.requires.n_nonzero) c.requires.n_nonzero (pairs-there c.args.s.now _ c.requires.n_value c.requires.n_nonzero c.compared16-first.ensures c.compared8-second.ensures) c.if-first.false c.if-second.true)

pub overflow_sub-result : goal.overflow_sub-result
overflow_sub-result c = omega (arith, form-ten c.args.s.now _ c.requires.n_value c.requires.n_nonzero)

pub returns : goal.returns
returns c = passes-all nikobus-bus c.args.s.now _ (link-found c.args.s.now _ c.requires.n_value c.requires.n_nonzero) c.requires.n_nonzero (pairs-there c.args.s.now _ c.requires.n_value c.requires.n_nonzero c.compared16-first.ensures c.compared8-second.ensures) (agree c.if-first.false (agree c.if-second.false all-agree)) (link-from c.args.s.now _ c.requires.n_value c.requires.n_nonzero) (link-to c.args.s.now _ c.requires.n_value c.requires.n_nonzero)
