-- `lacks::of_row` meets its contract.
-- Assumes nothing.
use Rattle.digits.proofs.Laws.Tests.{told, untold}
use Rattle.asked.proofs.Laws.Lacking.{lacking-one, lacking-none, place-below, stands, lacks-member, lacks-count, lacks-volts, lacks-nothing, told-draft}
use Rattle.asked.proofs.lacks.of_row.Goals as goal

pub found-requires : goal.found-requires
found-requires c =
    (c.requires.high, place-below (lacking-one c.in-Some.ensures).1)

pub returns-in-Some : goal.returns-in-Some
returns-in-Some c =
    lacks-member c.in-Some.ensures (stands c.found.result c.found.ensures c.is_ok.ensures.value)

pub returns-then-not-has_so_many : goal.returns-then-not-has_so_many
returns-then-not-has_so_many c =
    lacks-count (lacking-none c.in_default.ensures) c.many.ensures (untold c.has_so_many.ensures c.if-not-has_so_many.true)

pub returns-then-not-is_spelt : goal.returns-then-not-is_spelt
returns-then-not-is_spelt c =
    lacks-volts (lacking-none c.in_default.ensures) c.many.ensures (told c.has_so_many.ensures c.if-not-has_so_many.false) (untold (told-draft c.by_row.ensures c.is_spelt.ensures) c.if-not-is_spelt.true)

pub returns : goal.returns
returns c =
    lacks-nothing (lacking-none c.in_default.ensures) c.many.ensures (told c.has_so_many.ensures c.if-not-has_so_many.false) (told (told-draft c.by_row.ensures c.is_spelt.ensures) c.if-not-is_spelt.false)
