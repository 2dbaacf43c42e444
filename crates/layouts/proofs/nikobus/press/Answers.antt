-- `layouts::nikobus::press` meets its contract: nine bytes, and then digits and CR.
-- Assumes nothing.
use native.Mathlib.Omega.{arith}
use Rattle.layouts.specs.Paper.Layout.{all-agree}
use Rattle.layouts.proofs.Laws.Buses.{answered-as, fails-length, fails-fields, passes-all}
use Rattle.layouts.proofs.Laws.Nikobus.{nikobus-bus, hash-begun, hash-short, hash-long, no-press-found, press-found, press-pairs, press-from, press-to}
use Rattle.layouts.proofs.nikobus.press.Goals as goal

pub returns-then-s-lt9 : goal.returns-then-s-lt9
returns-then-s-lt9 c = answered-as c.from.ensures (fails-length nikobus-bus c.args.s.now (hash-begun c.args.s.now c.requires) (hash-short c.args.s.now c.requires c.if-s-lt9.true))

pub returns-then-not-digits_to : goal.returns-then-not-digits_to
returns-then-not-digits_to c = answered-as c.from-then-not-digits_to.ensures (fails-fields nikobus-bus c.args.s.now (hash-begun c.args.s.now c.requires) (hash-long c.args.s.now c.requires c.if-s-lt9.false) (no-press-found c.args.s.now c.requires c.if-s-lt9.false _ c.digits_to.ensures c.if-not-digits_to.true))

pub returns : goal.returns
returns c = passes-all nikobus-bus c.args.s.now 9 (press-found c.args.s.now c.requires c.if-s-lt9.false _ c.digits_to.ensures c.if-not-digits_to.false) (omega arith) (press-pairs c.args.s.now c.requires c.if-s-lt9.false _ c.digits_to.ensures c.if-not-digits_to.false) all-agree (press-from c.args.s.now c.requires c.if-s-lt9.false _ c.digits_to.ensures c.if-not-digits_to.false) (press-to c.args.s.now c.requires c.if-s-lt9.false _ c.digits_to.ensures c.if-not-digits_to.false)
