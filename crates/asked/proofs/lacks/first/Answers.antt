-- `lacks::first` meets its contract.
-- Assumes nothing.
use mathlib.Core.Path.{refl}
use Rattle.digits.proofs.Laws.Tests.{told, untold}
use Rattle.asked.specs.Paper.Lacks.{without, next}
use Rattle.asked.proofs.Laws.Lacking.{stands, no-head}
use Rattle.asked.proofs.Laws.Texts.{head_in}
use Rattle.asked.proofs.lacks.first.Goals as goal

pub returns-then-not-accepts : goal.returns-then-not-accepts
returns-then-not-accepts c = without (untold c.accepts.ensures c.if-not-accepts.true) refl

pub returns-then-not-is_object : goal.returns-then-not-is_object
returns-then-not-is_object c = next (told c.accepts.ensures c.if-not-accepts.false) (without (untold c.is_object.ensures c.if-not-is_object.true) refl)

pub returns-then-not-has_kind : goal.returns-then-not-has_kind
returns-then-not-has_kind c = next (told c.accepts.ensures c.if-not-accepts.false) (next (told c.is_object.ensures c.if-not-is_object.false) (without (untold c.has_kind.ensures c.if-not-has_kind.true) (record { there = _; stands = stands c.value_of.result c.value_of.ensures c.is_ok.ensures.value; is = refl })))

pub returns-in_default : goal.returns-in_default
returns-in_default c =
    next (told c.accepts.ensures c.if-not-accepts.false) (next (told c.is_object.ensures c.if-not-is_object.false) (next (told c.has_kind.ensures c.if-not-has_kind.false)
    (without (no-head c.in_default.ensures) (record { there = _; stands = stands c.value_of-in_default.result c.value_of-in_default.ensures c.is_ok-in_default.ensures.value; is = refl }))))

pub of_row-requires : goal.of_row-requires
of_row-requires c =
    head_in c.in-Some.ensures

pub returns : goal.returns
returns c =
    let h = head_in c.in-Some.ensures in next (told c.accepts.ensures c.if-not-accepts.false) (next (told c.is_object.ensures c.if-not-is_object.false) (next (told c.has_kind.ensures c.if-not-has_kind.false) (next (_, h) (record { row = _; head = h; lack = c.of_row.ensures }))))
