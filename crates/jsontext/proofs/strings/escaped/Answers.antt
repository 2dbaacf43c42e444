-- `strings::escaped` meets its contract.
-- Assumes nothing.
use lib.ListN.{get_or}
use mathlib.Core.Path.{sym, ◌∙◌}
use Rattle.jsontext.proofs.Laws.Values.{led-end}
use Rattle.jsontext.proofs.Laws.Follow.{followed, followed-none, followed-done, e-75, e-short, e-none}
use Rattle.jsontext.specs.Work.Tight.{four}
use Rattle.jsontext.proofs.strings.escaped.Goals as goal

pub returns-then-s-p : goal.returns-then-s-p
returns-then-s-p c = led-end c.if-s-p.true

pub returns-then-b-eq117 : goal.returns-then-b-eq117
returns-then-b-eq117 c = followed four c.if-s-p.false (e-75 (get_or c.args.s.now c.args.p 0) c.if-b-eq117.true) c.four_digits.ensures

pub returns-then-is_short : goal.returns-then-is_short
returns-then-is_short c = followed-done c.if-s-p.false (e-short (get_or c.args.s.now c.args.p 0) c.if-b-eq117.false (sym c.is_short.ensures ∙ c.if-is_short.true))

pub returns : goal.returns
returns c = followed-none c.if-s-p.false (e-none (get_or c.args.s.now c.args.p 0) c.if-b-eq117.false (sym c.is_short.ensures ∙ c.if-is_short.false))
