-- `strings::character` meets its contract.
-- Assumes nothing.
use native.Mathlib.Omega.{arith}
use lib.ListN.{get_or}
use Rattle.jsontext.proofs.Laws.Values.{led-end}
use Rattle.jsontext.proofs.Laws.Follow.{followed, followed-none, followed-done, f-low, f-plain, f-tail, f-2, f-3, f-4, f-over, f-5C, f-22, f-E0, f-ED, f-F0, f-F4}
use Rattle.jsontext.specs.Work.Tight.{Lead, escapes, two, three}
use Rattle.jsontext.specs.Paper.Json.{UTF8-tail}
use Rattle.jsontext.proofs.strings.character.Goals as goal

pub returns-then-s-p : goal.returns-then-s-p
returns-then-s-p c = led-end c.if-s-p.true

pub returns-then-b-eq92 : goal.returns-then-b-eq92
returns-then-b-eq92 c = followed (Lead escapes) c.if-s-p.false (f-5C (get_or c.args.s.now c.args.p 0) c.if-b-eq92.true) c.escaped.ensures

pub returns-then-b-lt32 : goal.returns-then-b-lt32
returns-then-b-lt32 c = followed-none c.if-s-p.false (f-low (get_or c.args.s.now c.args.p 0) c.if-b-lt32.true)

pub returns-then-b-eq34 : goal.returns-then-b-eq34
returns-then-b-eq34 c = followed-none c.if-s-p.false (f-22 (get_or c.args.s.now c.args.p 0) c.if-b-eq34.true)

pub returns-then-b-lt128 : goal.returns-then-b-lt128
returns-then-b-lt128 c = followed-done c.if-s-p.false (f-plain (get_or c.args.s.now c.args.p 0) c.if-b-eq92.false c.if-b-lt32.false c.if-b-eq34.false c.if-b-lt128.true)

pub returns-then-b-lt194 : goal.returns-then-b-lt194
returns-then-b-lt194 c = followed-none c.if-s-p.false (f-tail (get_or c.args.s.now c.args.p 0) c.if-b-lt128.false c.if-b-lt194.true)

pub returns-then-b-lt224 : goal.returns-then-b-lt224
returns-then-b-lt224 c = followed UTF8-tail c.if-s-p.false (f-2 (get_or c.args.s.now c.args.p 0) c.if-b-lt194.false c.if-b-lt224.true) c.within.ensures

pub returns-then-b : goal.returns-then-b
returns-then-b c = followed (two 0xA0 0xBF) c.if-s-p.false (f-E0 (get_or c.args.s.now c.args.p 0) c.if-b.true) c.two_more.ensures

pub returns-then-b-2 : goal.returns-then-b-2
returns-then-b-2 c = followed (two 0x80 0x9F) c.if-s-p.false (f-ED (get_or c.args.s.now c.args.p 0) c.if-b-2.true) c.two_more-then-b-2.ensures

pub returns-then-b-lt240 : goal.returns-then-b-lt240
returns-then-b-lt240 c = followed (two 0x80 0xBF) c.if-s-p.false (f-3 (get_or c.args.s.now c.args.p 0) (omega (arith, c.if-b-lt224.false, c.if-b.false)) c.if-b-lt240.true c.if-b-2.false) c.two_more-then-b-lt240.ensures

pub returns-then-b-3 : goal.returns-then-b-3
returns-then-b-3 c = followed (three 0x90 0xBF) c.if-s-p.false (f-F0 (get_or c.args.s.now c.args.p 0) c.if-b-3.true) c.three_more.ensures

pub returns-then-b-lt244 : goal.returns-then-b-lt244
returns-then-b-lt244 c = followed (three 0x80 0xBF) c.if-s-p.false (f-4 (get_or c.args.s.now c.args.p 0) (omega (arith, c.if-b-lt240.false, c.if-b-3.false)) c.if-b-lt244.true) c.three_more-then-b-lt244.ensures

pub returns-then-b-4 : goal.returns-then-b-4
returns-then-b-4 c = followed (three 0x80 0x8F) c.if-s-p.false (f-F4 (get_or c.args.s.now c.args.p 0) c.if-b-4.true) c.three_more-then-b-4.ensures

pub returns : goal.returns
returns c = followed-none c.if-s-p.false (f-over (get_or c.args.s.now c.args.p 0) (omega (arith, c.if-b-lt244.false, c.if-b-4.false)))
