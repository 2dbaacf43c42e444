-- `layouts::nikobus::tail` meets its contract: four bytes, and then CR.
-- Assumes nothing.
use native.Mathlib.Omega.{arith}
use Rattle.layouts.specs.Paper.Layout.{all-agree}
use Rattle.layouts.proofs.Laws.Buses.{answered-as, fails-length, fails-fields, passes-all}
use Rattle.layouts.proofs.Laws.Nikobus.{nikobus-bus, ended-begun, ended-short, ended-long, no-tail-found, tail-found, tail-pairs, tail_from, tail-to}
use Rattle.layouts.proofs.nikobus.tail.Goals as goal

pub returns-then-s-lt4 : goal.returns-then-s-lt4
returns-then-s-lt4 c = answered-as c.from.ensures (fails-length nikobus-bus c.args.s.now (ended-begun c.args.s.now c.requires) (ended-short c.args.s.now c.requires c.if-s-lt4.true))

pub returns-then-s-ne13 : goal.returns-then-s-ne13
returns-then-s-ne13 c = answered-as c.from-then-s-ne13.ensures (fails-fields nikobus-bus c.args.s.now (ended-begun c.args.s.now c.requires) (ended-long c.args.s.now c.requires c.if-s-lt4.false) (no-tail-found c.args.s.now c.requires c.if-s-ne13.true))

pub returns : goal.returns
returns c = passes-all nikobus-bus c.args.s.now 4 (tail-found c.args.s.now c.requires c.if-s-lt4.false c.if-s-ne13.false) (omega arith) (tail-pairs c.args.s.now c.requires c.if-s-lt4.false c.if-s-ne13.false) all-agree (tail_from c.args.s.now c.requires c.if-s-lt4.false c.if-s-ne13.false) (tail-to c.args.s.now c.requires c.if-s-lt4.false c.if-s-ne13.false)
