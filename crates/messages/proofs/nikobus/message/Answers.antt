-- `messages::nikobus::message` meets its contract: a frame is a link where it begins with `$`, else a press where `N` follows, else a tail.
-- Assumes nothing.
use native.Mathlib.Omega.{arith}
use Rattle.messages.proofs.Laws.Links.{two-long, frame-digits, frame-linked, frame-six, frame-pressed, frame-tail}
use Rattle.messages.proofs.nikobus.message.Goals as goal

pub bounds-frame-0 : goal.bounds-frame-0
bounds-frame-0 c = omega (arith, two-long c.requires)

pub linked-requires : goal.linked-requires
linked-requires c = frame-digits c.requires c.if-frame-eq36.true

pub returns-then-frame-eq36 : goal.returns-then-frame-eq36
returns-then-frame-eq36 c = frame-linked c.requires c.if-frame-eq36.true c.linked.ensures

pub bounds-frame-1 : goal.bounds-frame-1
bounds-frame-1 c = omega (arith, two-long c.requires)

pub pressed-requires : goal.pressed-requires
pressed-requires c = frame-six c.requires c.if-frame-eq36.false c.if-frame-eq78.true

pub returns-then-frame-eq78 : goal.returns-then-frame-eq78
returns-then-frame-eq78 c = frame-pressed c.requires c.if-frame-eq36.false c.pressed.result c.if-frame-eq78.true c.pressed.ensures

pub returns : goal.returns
returns c = frame-tail c.requires c.if-frame-eq36.false c.if-frame-eq78.false
