-- `readings::is_pointed_so` meets its contract, part by part.
-- Assumes nothing.
use Rattle.digits.proofs.Laws.Parts.{part-rest}
use Rattle.digits.proofs.Laws.Tests.{told, untold}
use Rattle.asked.proofs.Laws.Points.{other_length, other-front, no-point, by-rest}
use Rattle.asked.proofs.readings.is_pointed_so.Goals as goal

pub returns-then-decimals-eq0 : goal.returns-then-decimals-eq0
returns-then-decimals-eq0 c = rw c.if-decimals-eq0.true c.same.ensures

pub returns-then-s-whole : goal.returns-then-s-whole
returns-then-s-whole c = other_length c.args.whole.now c.if-decimals-eq0.false c.front-at.ensures c.if-s-whole.true

pub returns-then-not-same : goal.returns-then-not-same
returns-then-not-same c =
    other-front c.args.whole.now c.if-decimals-eq0.false c.front-at.ensures
    (untold c.same-2.ensures c.if-not-same.true)

pub returns-then-s-at-ne46 : goal.returns-then-s-at-ne46
returns-then-s-at-ne46 c =
    no-point c.args.whole.now c.if-decimals-eq0.false c.front-at.ensures c.if-s-at-ne46.true

pub returns : goal.returns
returns c =
    by-rest c.args.whole.now c.if-decimals-eq0.false c.front-at.ensures c.if-s-whole.false
    (told c.same-2.ensures c.if-not-same.false)
    c.if-s-at-ne46.false (rw (part-rest, part-rest) at c.same-3.ensures)
