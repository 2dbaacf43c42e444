-- `book::opening::filled` meets its contract. The loop's invariant: the entries that are left fill the book from here exactly where all
-- of them fill the whole, and what is noted of them completes what has been noted. The measure is how many are left.
-- Assumes nothing.
use native.Mathlib.Omega.{arith}
use Rattle.digits.proofs.Laws.Tests.{told, untold}
use Rattle.book.specs.Work.Reading.{unfilled}
use Rattle.book.proofs.Laws.Opening.{no-turns, other_offset, no-next, turn, turns-end}
use Rattle.book.proofs.opening.filled.Goals as goal

pub loop-i-init : goal.loop-i-init
loop-i-init c = no-turns _ _ _ _ c.requires.count_bound (omega arith) (omega arith)

pub is_offset-requires : goal.is_offset-requires
is_offset-requires c = record { from_in_bounds = omega arith; place_bound = omega (arith, c.loop-i.invariant.place_in) }

pub returns-then-not-is_offset : goal.returns-then-not-is_offset
returns-then-not-is_offset c =
    unfilled (other_offset c.requires.count_in_bounds c.requires.s_len_bound c.loop-i.invariant c.loop-i-test.true (untold c.is_offset.ensures c.if-not-is_offset.true))

pub entry_at-requires : goal.entry_at-requires
entry_at-requires c = record { at_le_end = c.loop-i.invariant.place_in; end_in_bounds = omega arith; s_len_bound = omega arith }

pub returns-in_default : goal.returns-in_default
returns-in_default c =
    unfilled (no-next c.requires.count_in_bounds c.requires.s_len_bound c.loop-i.invariant c.loop-i-test.true c.in_default.ensures)

pub loop-i-preserved : goal.loop-i-preserved
loop-i-preserved c =
    turn c.requires.count_in_bounds c.requires.s_len_bound c.loop-i.invariant c.loop-i-test.true
    (told c.is_offset.ensures c.if-not-is_offset.false) c.in-Some.ensures

pub returns : goal.returns
returns c = turns-end c.requires.count_in_bounds c.loop-i.invariant c.loop-i-test.false
