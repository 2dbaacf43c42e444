-- `book::contents::of_nikobus` meets its contract: a frame is a link where it begins with `$`, else a press where `N` follows, else a tail.
-- Assumes nothing.
use native.Mathlib.Omega.{arith}
use Rattle.book.proofs.Laws.Contents.{two-long, link-tagged, press-tagged, tail-tagged}
use Rattle.book.proofs.contents.of_nikobus.Goals as goal

pub bounds-frame-0 : goal.bounds-frame-0
bounds-frame-0 c = omega (arith, two-long c.requires)

pub returns-then-frame-eq36 : goal.returns-then-frame-eq36
returns-then-frame-eq36 c = link-tagged c.requires c.if-frame-eq36.true

pub bounds-frame-1 : goal.bounds-frame-1
bounds-frame-1 c = omega (arith, two-long c.requires)

pub returns-then-frame-eq78 : goal.returns-then-frame-eq78
returns-then-frame-eq78 c = press-tagged c.requires c.if-frame-eq36.false c.if-frame-eq78.true

pub returns : goal.returns
returns c = tail-tagged c.requires c.if-frame-eq36.false c.if-frame-eq78.false
