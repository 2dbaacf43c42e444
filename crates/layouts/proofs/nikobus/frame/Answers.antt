-- `layouts::nikobus::frame` meets its contract: the start mark says which of the three can be there.
-- Assumes nothing.
use mathlib.Core.Path.{sym, ◌∙◌}
use Rattle.layouts.proofs.Laws.Buses.{answered-as, fails-start}
use Rattle.layouts.proofs.Laws.Nikobus.{nikobus-bus, no-mark}
use Rattle.layouts.proofs.nikobus.frame.Goals as goal

pub link-requires : goal.link-requires
link-requires c = sym c.starts_with.ensures ∙ c.if-starts_with.true

pub returns-then-starts_with : goal.returns-then-starts_with
returns-then-starts_with c = c.link.ensures

pub press-requires : goal.press-requires
press-requires c = sym c.starts_with-2.ensures ∙ c.if-starts_with-2.true

pub returns-then-starts_with-2 : goal.returns-then-starts_with-2
returns-then-starts_with-2 c = c.press.ensures

pub tail-requires : goal.tail-requires
tail-requires c = sym c.starts_with-3.ensures ∙ c.if-starts_with-3.true

pub returns-then-starts_with-3 : goal.returns-then-starts_with-3
returns-then-starts_with-3 c = c.tail.ensures

pub returns : goal.returns
returns c = answered-as c.from.ensures (fails-start nikobus-bus c.args.s.now (no-mark c.args.s.now (sym c.starts_with.ensures ∙ c.if-starts_with.false) (sym c.starts_with-2.ensures ∙ c.if-starts_with-2.false) (sym c.starts_with-3.ensures ∙ c.if-starts_with-3.false)))
