-- `strings::within` meets its contract.
-- Assumes nothing.
use native.Mathlib.Omega.{arith}
use Rattle.jsontext.proofs.Laws.Blanks.{ranged, class-one, class-none, class-end}
use Rattle.jsontext.proofs.strings.within.Goals as goal

pub returns-then-s-p : goal.returns-then-s-p
returns-then-s-p c = class-end (ranged c.args.low c.args.high) c.if-s-p.true

pub returns-then-s-p-2 : goal.returns-then-s-p-2
returns-then-s-p-2 c = class-none (ranged c.args.low c.args.high) c.if-s-p.false (λ h. omega (arith, h.0))

pub returns-then-high-s : goal.returns-then-high-s
returns-then-high-s c = class-none (ranged c.args.low c.args.high) c.if-s-p.false (λ h. omega (arith, h.1))

pub returns : goal.returns
returns c = class-one (ranged c.args.low c.args.high) c.if-s-p.false (c.if-s-p-2.false, c.if-high-s.false)
