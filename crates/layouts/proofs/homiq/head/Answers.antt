-- `layouts::homiq::head` meets its contract: `<;`, the five fields, and TYPE follow one another as in `head_len`.
-- Assumes nothing.
use Rattle.digits.specs.Paper.Ascii.{ascii}
use Rattle.layouts.proofs.Laws.Heads.{starts_with, mark-inside}
use Rattle.layouts.proofs.Laws.HomiqFrame.{no-five, head-there}
use Rattle.layouts.proofs.homiq.head.Goals as goal

pub slice_bounds-five-count : goal.slice_bounds-five-count
slice_bounds-five-count c = mark-inside (ascii "<;") c.args.s.now (starts_with (ascii "<;") c.args.s.now c.requires)

pub slice_bounds-five-start : goal.slice_bounds-five-start
slice_bounds-five-start c = mark-inside (ascii "<;") c.args.s.now (starts_with (ascii "<;") c.args.s.now c.requires)

pub returns-in_err-id : goal.returns-in_err-id
returns-in_err-id c = rw c.from_residual.ensures (no-five c.args.s.now c.requires c.in_err-id.ensures)

pub returns : goal.returns
returns c = head-there c.args.s.now c.requires c.in_ok-id.ensures _ _ c.word_at.ensures c.word_at-2.ensures c.or.ensures
