-- The functions that look for a fault, which call each other, meet their contracts.
-- Assumes nothing.
use Prim.Native.Nat.{◌-◌}
use native.Mathlib.Omega.{arith}
use Rattle.jsontext.proofs.Laws.Faults.{in_item, named-before, comma-lacks, pass_on, set-out-members, is-other, is-twice}
use Rattle.jsontext.proofs.Laws.Faults.{members-on, name-lacks, colon-lacks, in-its-value, text-ends, in-object-there, in-array-there, no-value-there}
use Rattle.jsontext.proofs.Laws.Faults.{deeper, nested-too-deep}
use Rattle.jsontext.proofs.Laws.Places.{found, told-yes, told-no}
use Rattle.jsontext.proofs.faults.+in_array_in_member_in_object_in_value.Goals as goal

pub in_array-returns-in_default : goal.in_array-returns-in_default
in_array-returns-in_default t c = in_item c.loop-e.invariant c.in_default.ensures c.in_value.ensures

pub in_array-returns-then-not-stands : goal.in_array-returns-then-not-stands
in_array-returns-then-not-stands t c =
    comma-lacks c.loop-e.invariant (found c.in-Some.ensures) tt c.blanks-f.ensures (told-no c.stands.ensures c.if-not-stands.true)

pub in_array-loop-e-smaller : goal.in_array-loop-e-smaller
in_array-loop-e-smaller t c =
    let v = found c.in-Some.ensures in omega (arith, v.on, v.within, c.blanks-f.ensures.on, c.blanks-at-in-loop-e.ensures.on)

pub in_array-loop-e-preserved : goal.in_array-loop-e-preserved
in_array-loop-e-preserved t c =
    pass_on c.loop-e.invariant (found c.in-Some.ensures) tt c.blanks-f.ensures (told-yes c.stands.ensures c.if-not-stands.false) c.blanks-at-in-loop-e.ensures

pub in_member-returns-in_default : goal.in_member-returns-in_default
in_member-returns-in_default t c = name-lacks c.requires c.in_default.ensures

pub in_member-returns-then-not-stands : goal.in_member-returns-then-not-stands
in_member-returns-then-not-stands t c =
    colon-lacks (found c.in-Some.ensures) c.blanks-b.ensures (told-no c.stands.ensures c.if-not-stands.true)

pub in_member-returns : goal.in_member-returns
in_member-returns t c =
    in-its-value (found c.in-Some.ensures) c.blanks-b.ensures (told-yes c.stands.ensures c.if-not-stands.false) c.blanks-c.ensures c.in_value.ensures

pub in_object-loop-e-init : goal.in_object-loop-e-init
in_object-loop-e-init t c = set-out-members c.requires c.blanks-first.ensures

pub in_object-returns-in_default : goal.in_object-returns-in_default
in_object-returns-in_default t c = in_item c.loop-e.invariant.passing c.in_default.ensures c.in_member.ensures

pub in_object-returns-then-not-is_new : goal.in_object-returns-then-not-is_new
in_object-returns-then-not-is_new t c =
    named-before c.loop-e.invariant.passing (found c.in-Some.ensures) (is-twice c.loop-e.invariant c.is_new.ensures c.if-not-is_new.true)

pub in_object-returns-then-not-stands : goal.in_object-returns-then-not-stands
in_object-returns-then-not-stands t c =
    comma-lacks c.loop-e.invariant.passing (found c.in-Some.ensures) (is-other c.loop-e.invariant c.is_new.ensures c.if-not-is_new.false) c.blanks-f.ensures (told-no c.stands.ensures c.if-not-stands.true)

pub in_object-loop-e-smaller : goal.in_object-loop-e-smaller
in_object-loop-e-smaller t c =
    let v = found c.in-Some.ensures in omega (arith, v.on, v.within, c.blanks-f.ensures.on, c.blanks-at.ensures.on)

pub in_object-loop-e-preserved : goal.in_object-loop-e-preserved
in_object-loop-e-preserved t c =
    members-on c.loop-e.invariant c.in-Some.ensures (is-other c.loop-e.invariant c.is_new.ensures c.if-not-is_new.false) c.blanks-f.ensures (told-yes c.stands.ensures c.if-not-stands.false) c.blanks-at.ensures

pub in_value-returns-then-s-p : goal.in_value-returns-then-s-p
in_value-returns-then-s-p t c = text-ends c.args.depth c.requires c.if-s-p.true

pub in_value-returns-then-depth-eq0 : goal.in_value-returns-then-depth-eq0
in_value-returns-then-depth-eq0 t c = nested-too-deep c.if-depth-eq0.true c.if-s-p.false

pub in_value-returns-then-s-p-eq123 : goal.in_value-returns-then-s-p-eq123
in_value-returns-then-s-p-eq123 t c =
    deeper c.if-depth-eq0.false (in-object-there (c.args.depth - 1) c.if-s-p.false c.if-s-p-eq123.true c.in_object.ensures)

pub in_value-returns-then-s-p-eq91 : goal.in_value-returns-then-s-p-eq91
in_value-returns-then-s-p-eq91 t c =
    deeper c.if-depth-eq0.false (in-array-there (c.args.depth - 1) c.if-s-p.false c.if-s-p-eq91.true c.in_array.ensures)

pub in_value-returns : goal.in_value-returns
in_value-returns t c =
    deeper c.if-depth-eq0.false (no-value-there (c.args.depth - 1) c.if-s-p.false c.if-s-p-eq123.false c.if-s-p-eq91.false)
