-- `units::size_of` meets its contract.
-- Assumes nothing.
use Rattle.jsontext.proofs.Laws.Characters.{size-escape, size-1, size-2, size-3, size-4}
use Rattle.jsontext.proofs.units.size_of.Goals as goal

pub returns-then-b-eq92 : goal.returns-then-b-eq92
returns-then-b-eq92 c = size-escape c.args.t.now c.byte_at-b.ensures.0 c.if-b-eq92.true c.byte_at.ensures.0 c.escape_size.ensures

pub returns-then-b-lt128 : goal.returns-then-b-lt128
returns-then-b-lt128 c = size-1 c.args.t.now c.byte_at-b.ensures.0 c.if-b-eq92.false c.if-b-lt128.true

pub returns-then-b-lt224 : goal.returns-then-b-lt224
returns-then-b-lt224 c = size-2 c.args.t.now c.byte_at-b.ensures.0 c.if-b-eq92.false c.if-b-lt128.false c.if-b-lt224.true

pub returns-then-b-lt240 : goal.returns-then-b-lt240
returns-then-b-lt240 c = size-3 c.args.t.now c.byte_at-b.ensures.0 c.if-b-eq92.false c.if-b-lt224.false c.if-b-lt240.true

pub returns : goal.returns
returns c = size-4 c.args.t.now c.byte_at-b.ensures.0 c.if-b-eq92.false c.if-b-lt240.false
