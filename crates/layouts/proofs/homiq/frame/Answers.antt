-- `layouts::homiq::frame` meets its contract: each test that fails is the first, and what passes them all is a frame.
-- Assumes nothing.
use mathlib.Core.Path.{refl, sym, ◌∙◌}
use Rattle.digits.specs.Paper.Ascii.{ascii}
use Rattle.layouts.specs.Paper.Layout.{all-agree, agree}
use Rattle.layouts.proofs.Laws.Buses.{answered-as, fails-start, fails-fields, fails-first, passes-all}
use Rattle.layouts.proofs.Laws.Heads.{starts_with, not-starts}
use Rattle.layouts.proofs.Laws.Homiq.{homiq-bus}
use Rattle.layouts.proofs.Laws.HomiqFrame.{frame_found, pair-there, payload-end}
use Rattle.layouts.proofs.homiq.frame.Goals as goal

pub returns-then-not-starts_with : goal.returns-then-not-starts_with
returns-then-not-starts_with c = answered-as c.from.ensures (fails-start homiq-bus c.args.s.now (not-starts (ascii "<;") c.args.s.now (sym c.starts_with.ensures ∙ c.if-not-starts_with.true)))

pub returns-in_default : goal.returns-in_default
returns-in_default c = answered-as c.from-in_default.ensures (fails-fields homiq-bus c.args.s.now (starts_with (ascii "<;") c.args.s.now (sym c.starts_with.ensures ∙ c.if-not-starts_with.false)) tt c.in_default.ensures)

pub slice_bounds-crc-count : goal.slice_bounds-crc-count
slice_bounds-crc-count c = (frame_found c.args.s.now c.in-Some.ensures.1 c.in-Some.ensures.0).two

pub slice_bounds-crc-start : goal.slice_bounds-crc-start
slice_bounds-crc-start c = (frame_found c.args.s.now c.in-Some.ensures.1 c.in-Some.ensures.0).two

pub returns-then-check : goal.returns-then-check
returns-then-check c = let f = frame_found c.args.s.now c.in-Some.ensures.1 c.in-Some.ensures.0 in answered-as c.failing.ensures (fails-first homiq-bus c.args.s.now _ c.in-Some.ensures.0.0 c.in-Some.ensures.0.1 (pair-there f c.crc.ensures c.in-Some.ensures.2) c.if-check.true)

pub returns : goal.returns
returns c = let f = frame_found c.args.s.now c.in-Some.ensures.1 c.in-Some.ensures.0 in passes-all homiq-bus c.args.s.now _ c.in-Some.ensures.0.0 c.in-Some.ensures.0.1 (pair-there f c.crc.ensures c.in-Some.ensures.2) (agree c.if-check.false all-agree) refl (payload-end f)
