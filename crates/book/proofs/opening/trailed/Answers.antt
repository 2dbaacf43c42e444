-- `book::opening::trailed` meets its contract: the limits, the count and the distance back.
-- Assumes nothing.
use native.Mathlib.Omega.{arith}
use Rattle.digits.specs.Paper.Read.{fails}
use Rattle.book.proofs.Laws.Opening.{the-count, trailed-is}
use Rattle.book.proofs.Laws.Reading.{compared}
use Rattle.book.proofs.opening.trailed.Goals as goal

pub returns-then-n-lt-ENDING : goal.returns-then-n-lt-ENDING
returns-then-n-lt-ENDING c = fails (λ t. absurd (omega (arith, t.1.room, c.if-n-lt-ENDING.true)))

pub returns-then-n-gt-MOST_BYTES : goal.returns-then-n-gt-MOST_BYTES
returns-then-n-gt-MOST_BYTES c = fails (λ t. absurd (omega (arith, t.1.small, c.if-n-gt-MOST_BYTES.true)))

pub returns-then-count-gt-MOST_ENTRIES : goal.returns-then-count-gt-MOST_ENTRIES
returns-then-count-gt-MOST_ENTRIES c =
    fails (λ t. absurd (omega (arith, (the-count c.count-count.ensures.0 c.count-count.ensures.1 t.1).0, t.1.few, c.if-count-gt-MOST_ENTRIES.true)))

pub returns-then-n-size : goal.returns-then-n-size
returns-then-n-size c =
    fails (λ t. absurd (omega (arith, (the-count c.count-count.ensures.0 c.count-count.ensures.1 t.1).0, t.1.room, c.trailer_size-size.ensures, c.if-n-size.true)))

pub returns : goal.returns
returns c =
    trailed-is c.if-n-gt-MOST_BYTES.false c.if-count-gt-MOST_ENTRIES.false (omega (arith, c.trailer_size-size.ensures, c.if-n-size.false)) c.count-count.ensures.1
    (compared c.four.ensures.0 (omega (arith, c.if-count-gt-MOST_ENTRIES.false)) c.four.ensures.1 (omega (arith, c.trailer_size-size.ensures)))
