-- The readers of values, which call each other, meet their contracts.
-- Assumes nothing.
use native.Mathlib.Omega.{arith}
use Rattle.jsontext.specs.Work.Names.{next}
use Rattle.jsontext.specs.Work.Tight.{tight}
use Rattle.jsontext.proofs.Laws.Places.{found}
use Rattle.jsontext.proofs.Laws.Lists.{rest-cut, rest-empty, begin-at, no-element, neither-end, closed, neither-at, another}
use Rattle.jsontext.proofs.Laws.Lists.{member-never, no_name, no-colon-at, no-colon-end, valued}
use Rattle.jsontext.proofs.Laws.Once.{told-true, told-false, later-none, later-end, later_last, a-next}
use Rattle.jsontext.proofs.Laws.Once.{uncompared, stands-before, no-next, all_new, compare-on, onward-less}
use Rattle.jsontext.proofs.Laws.Once.{no-object, enter, empty-object, named-twice, object-ends, object-on}
use Rattle.jsontext.proofs.Laws.Values.{value-never, too-deep, no_value, is-string, is-object, is-array, is_true, is_false, is-null, is_number}
use Rattle.jsontext.proofs.+array_is_new_later_member_object_value.Goals as goal

pub array-returns-then-s-at : goal.array-returns-then-s-at
array-returns-then-s-at t c = rest-cut (value-never c.args.names c.args.depth) c.blanks-at.ensures c.if-s-at.true

pub array-returns-then-s-at-eq93 : goal.array-returns-then-s-at-eq93
array-returns-then-s-at-eq93 t c = rest-empty c.blanks-at.ensures c.if-s-at.false c.if-s-at-eq93.true

pub array-loop-e-init : goal.array-loop-e-init
array-loop-e-init t c = begin-at c.blanks-at.ensures c.if-s-at.false c.if-s-at-eq93.false

pub array-returns-in_err-e : goal.array-returns-in_err-e
array-returns-in_err-e t c = rw c.from_residual.ensures (no-element c.loop-e.invariant c.in_err-e.ensures)

pub array-returns-then-s-f : goal.array-returns-then-s-f
array-returns-then-s-f t c =
    neither-end c.loop-e.invariant (found c.in_ok-e.ensures) c.blanks-f.ensures c.if-s-f.true

pub array-returns-then-s-f-eq93 : goal.array-returns-then-s-f-eq93
array-returns-then-s-f-eq93 t c =
    closed c.loop-e.invariant (found c.in_ok-e.ensures) c.blanks-f.ensures c.if-s-f.false c.if-s-f-eq93.true (λ e. omega arith)

pub array-returns-then-s-f-ne44 : goal.array-returns-then-s-f-ne44
array-returns-then-s-f-ne44 t c =
    neither-at c.loop-e.invariant (found c.in_ok-e.ensures) c.blanks-f.ensures c.if-s-f.false c.if-s-f-eq93.false c.if-s-f-ne44.true

pub array-loop-e-smaller : goal.array-loop-e-smaller
array-loop-e-smaller t c =
    let v = found c.in_ok-e.ensures in omega (arith, v.on, v.within, c.blanks-f.ensures.on, c.blanks-at-in-loop-e.ensures.on)

pub array-loop-e-preserved : goal.array-loop-e-preserved
array-loop-e-preserved t c =
    another c.loop-e.invariant (found c.in_ok-e.ensures) c.blanks-f.ensures c.if-s-f.false c.if-s-f-ne44.false (λ e. omega arith) c.blanks-at-in-loop-e.ensures

pub is_new-returns-then-not-names : goal.is_new-returns-then-not-names
is_new-returns-then-not-names t c = uncompared c.args.names c.if-not-names.true

pub is_new-returns-then-same_name : goal.is_new-returns-then-same_name
is_new-returns-then-same_name t c =
    stands-before c.args.names c.if-not-names.false c.loop-i.invariant c.loop-i-test.true (told-true c.same_name.ensures c.if-same_name.true)

pub is_new-returns-in_default : goal.is_new-returns-in_default
is_new-returns-in_default t c = (no-next c.args.names c.if-not-names.false c.loop-i.invariant c.loop-i-test.true c.in_default.ensures)

pub is_new-loop-i-smaller : goal.is_new-loop-i-smaller
is_new-loop-i-smaller t c = onward-less c.loop-i-test.true c.in-Some.ensures

pub is_new-loop-i-preserved : goal.is_new-loop-i-preserved
is_new-loop-i-preserved t c =
    compare-on c.loop-i.invariant c.loop-i-test.true (told-false c.same_name.ensures c.if-same_name.false) c.in-Some.ensures

pub is_new-returns : goal.is_new-returns
is_new-returns t c = all_new c.args.names c.if-not-names.false c.loop-i.invariant c.loop-i-test.false

pub later-returns-in_err-e : goal.later-returns-in_err-e
later-returns-in_err-e t c = rw c.from_residual.ensures (later-none c.in_err-e.ensures)

pub later-returns-then-s-f : goal.later-returns-then-s-f
later-returns-then-s-f t c = later-end (found c.in_ok-e.ensures) c.blanks-f.ensures c.if-s-f.true

pub later-returns-then-s-f-ne44 : goal.later-returns-then-s-f-ne44
later-returns-then-s-f-ne44 t c =
    later_last (found c.in_ok-e.ensures) c.blanks-f.ensures c.if-s-f.false c.if-s-f-ne44.true

pub later-returns : goal.later-returns
later-returns t c =
    next (a-next c.in_ok-e.ensures c.blanks-f.ensures c.if-s-f.false c.if-s-f-ne44.false c.blanks.ensures)

pub member-returns-in_default : goal.member-returns-in_default
member-returns-in_default t c = (no_name c.in_default.ensures)

pub member-returns-then-s-b : goal.member-returns-then-s-b
member-returns-then-s-b t c = no-colon-end (found c.in-Some.ensures) c.blanks-b.ensures c.if-s-b.true

pub member-returns-then-s-b-ne58 : goal.member-returns-then-s-b-ne58
member-returns-then-s-b-ne58 t c =
    no-colon-at (found c.in-Some.ensures) c.blanks-b.ensures c.if-s-b.false c.if-s-b-ne58.true

pub member-returns : goal.member-returns
member-returns t c =
    valued (found c.in-Some.ensures) c.blanks-b.ensures c.if-s-b.false c.if-s-b-ne58.false c.blanks-c.ensures c.value.ensures

pub object-returns-then-s-first : goal.object-returns-then-s-first
object-returns-then-s-first t c =
    no-object (rest-cut (member-never (tight c.args.names c.args.depth)) c.blanks-first.ensures c.if-s-first.true)

pub object-returns-then-s-first-eq125 : goal.object-returns-then-s-first-eq125
object-returns-then-s-first-eq125 t c =
    empty-object c.args.names c.blanks-first.ensures c.if-s-first.false c.if-s-first-eq125.true

pub object-loop-e-init : goal.object-loop-e-init
object-loop-e-init t c = enter c.args.names c.args.depth c.blanks-first.ensures c.if-s-first.false c.if-s-first-eq125.false

pub object-returns-in_default : goal.object-returns-in_default
object-returns-in_default t c = (no-object (no-element c.loop-e.invariant.going c.in_default.ensures))

pub object-returns-then-not-is_new : goal.object-returns-then-not-is_new
object-returns-then-not-is_new t c = named-twice c.loop-e.invariant c.is_new.ensures c.if-not-is_new.true

pub object-returns-then-s-f : goal.object-returns-then-s-f
object-returns-then-s-f t c =
    no-object (neither-end c.loop-e.invariant.going (found c.in-Some.ensures) c.blanks-f.ensures c.if-s-f.true)

pub object-returns-then-s-f-eq125 : goal.object-returns-then-s-f-eq125
object-returns-then-s-f-eq125 t c =
    object-ends c.loop-e.invariant c.is_new.ensures c.if-not-is_new.false c.in-Some.ensures c.blanks-f.ensures c.if-s-f.false c.if-s-f-eq125.true

pub object-returns-then-s-f-ne44 : goal.object-returns-then-s-f-ne44
object-returns-then-s-f-ne44 t c =
    no-object (neither-at c.loop-e.invariant.going (found c.in-Some.ensures) c.blanks-f.ensures c.if-s-f.false c.if-s-f-eq125.false c.if-s-f-ne44.true)

pub object-loop-e-smaller : goal.object-loop-e-smaller
object-loop-e-smaller t c =
    let v = found c.in-Some.ensures in omega (arith, v.on, v.within, c.blanks-f.ensures.on, c.blanks-at.ensures.on)

pub object-loop-e-preserved : goal.object-loop-e-preserved
object-loop-e-preserved t c =
    object-on c.loop-e.invariant c.is_new.ensures c.if-not-is_new.false c.in-Some.ensures c.blanks-f.ensures c.if-s-f.false c.if-s-f-ne44.false c.blanks-at.ensures

pub value-returns-then-depth-eq0 : goal.value-returns-then-depth-eq0
value-returns-then-depth-eq0 t c = too-deep c.args.names c.if-depth-eq0.true

pub value-returns-then-s-p : goal.value-returns-then-s-p
value-returns-then-s-p t c = no_value c.args.names c.if-depth-eq0.false c.if-s-p.true

pub value-returns-then-b-eq34 : goal.value-returns-then-b-eq34
value-returns-then-b-eq34 t c = is-string c.args.names c.if-depth-eq0.false c.if-s-p.false c.if-b-eq34.true c.quoted.ensures

pub value-returns-then-b-eq123 : goal.value-returns-then-b-eq123
value-returns-then-b-eq123 t c = is-object c.args.names c.if-depth-eq0.false c.if-s-p.false c.if-b-eq123.true c.object.ensures

pub value-returns-then-b-eq91 : goal.value-returns-then-b-eq91
value-returns-then-b-eq91 t c = is-array c.args.names c.if-depth-eq0.false c.if-s-p.false c.if-b-eq91.true c.array.ensures

pub value-returns-then-b-eq116 : goal.value-returns-then-b-eq116
value-returns-then-b-eq116 t c = is_true c.args.names c.if-depth-eq0.false c.if-s-p.false c.if-b-eq116.true c.literal.ensures

pub value-returns-then-b-eq102 : goal.value-returns-then-b-eq102
value-returns-then-b-eq102 t c =
    is_false c.args.names c.if-depth-eq0.false c.if-s-p.false c.if-b-eq102.true c.literal-then-b-eq102.ensures

pub value-returns-then-b-eq110 : goal.value-returns-then-b-eq110
value-returns-then-b-eq110 t c =
    is-null c.args.names c.if-depth-eq0.false c.if-s-p.false c.if-b-eq110.true c.literal-then-b-eq110.ensures

pub value-returns : goal.value-returns
value-returns t c =
    is_number c.args.names c.if-depth-eq0.false c.if-s-p.false c.if-b-eq34.false c.if-b-eq123.false c.if-b-eq91.false c.if-b-eq116.false c.if-b-eq102.false c.if-b-eq110.false c.number.ensures
