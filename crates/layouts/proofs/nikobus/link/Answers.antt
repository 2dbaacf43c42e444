-- `layouts::nikobus::link` meets its contract: LL and the count of bytes, the form, and then the checks.
-- Assumes nothing.
use mathlib.Core.Bool.{true, false}
use mathlib.Core.Path.{sym, ◌∙◌}
use native.Mathlib.Omega.{arith}
use Rattle.layouts.specs.Work.Heads.{only_if}
use Rattle.layouts.proofs.Laws.Buses.{answered-as, fails-length, fails-fields}
use Rattle.layouts.proofs.Laws.Nikobus.{nikobus-bus, dollar-begun, no-ll-short, ll-short, ll-enough, ll-twelve, form-digits, no-link-found}
use Rattle.layouts.proofs.nikobus.link.Goals as goal

pub returns-in_default : goal.returns-in_default
returns-in_default c = answered-as c.from.ensures (fails-length nikobus-bus c.args.s.now (dollar-begun c.args.s.now c.requires) (no-ll-short c.args.s.now c.requires c.in_default.ensures))

pub returns-then-s-n : goal.returns-then-s-n
returns-then-s-n c = answered-as c.from-then-s-n.ensures (fails-length nikobus-bus c.args.s.now (dollar-begun c.args.s.now c.requires) (ll-short c.args.s.now c.requires _ c.in-Some.ensures c.if-s-n.true))

pub overflow_sub-n : goal.overflow_sub-n
overflow_sub-n c = omega (arith, c.in-Some.ensures)

pub digits_to-requires : goal.digits_to-requires
digits_to-requires c =
    let l = ll-twelve c.args.s.now _ c.in-Some.ensures in
    record { in_order = omega arith; in_bounds = omega (arith, c.if-s-n.false) }

pub returns-then-not-digits_to : goal.returns-then-not-digits_to
unfolding only_if
returns-then-not-digits_to c = answered-as c.from-then-not-digits_to.ensures (fails-fields nikobus-bus c.args.s.now (dollar-begun c.args.s.now c.requires) (ll-enough c.args.s.now c.requires _ c.in-Some.ensures c.if-s-n.false) (no-link-found c.args.s.now c.requires (form-digits c.args.s.now _ c.in-Some.ensures false c.if-s-n.false (sym c.if-not-digits_to.true ∙ c.digits_to.ensures))))

pub checked-requires : goal.checked-requires
unfolding only_if
checked-requires c = record { n_value = sym (form-digits c.args.s.now _ c.in-Some.ensures true c.if-s-n.false (sym c.if-not-digits_to.false ∙ c.digits_to.ensures)); n_nonzero = c.in-Some.ensures.1 }

pub returns : goal.returns
returns c = c.checked.ensures
