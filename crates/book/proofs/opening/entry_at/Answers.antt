-- `book::opening::entry_at` meets its contract: the head that stands there, and one frame of that length.
-- Assumes nothing.
use Rattle.book.proofs.Laws.Opening.{slot-short, slot-long, slot-none, slot_is}
use Rattle.book.proofs.opening.entry_at.Goals as goal

pub returns-then-end-at-lt-HEAD : goal.returns-then-end-at-lt-HEAD
returns-then-end-at-lt-HEAD c =
    slot-short c.args.s.now c.args.at c.args.end c.requires.at_le_end c.requires.end_in_bounds c.if-end-at-lt-HEAD.true

pub returns-then-end-to : goal.returns-then-end-to
returns-then-end-to c =
    slot-long c.args.s.now c.args.at c.args.end c.requires.at_le_end c.requires.end_in_bounds c.requires.s_len_bound c.head_at-head.ensures c.if-end-to.true

pub returns-in-Ok : goal.returns-in-Ok
returns-in-Ok c =
    slot_is c.args.s.now c.args.at c.args.end c.requires.at_le_end c.requires.end_in_bounds c.requires.s_len_bound c.head_at-head.ensures c.if-end-to.false
    c.in-Ok.ensures

pub returns-in-Err : goal.returns-in-Err
returns-in-Err c =
    slot-none c.args.s.now c.args.at c.args.end c.requires.at_le_end c.requires.end_in_bounds c.requires.s_len_bound c.head_at-head.ensures
    _ c.in-Err.ensures
