-- `units::code_of` meets its contract.
-- Assumes nothing.
use mathlib.Core.Path.{◌∙◌}
use Rattle.jsontext.proofs.Laws.Characters.{code-escape, code-1, code-2, code-3}
use Rattle.jsontext.proofs.units.code_of.Goals as goal

pub returns-then-b-eq92 : goal.returns-then-b-eq92
returns-then-b-eq92 c = c.escape_of.ensures ∙ code-escape c.args.t.now c.byte_at-b.ensures.0 c.if-b-eq92.true

pub returns-then-b-lt128 : goal.returns-then-b-lt128
returns-then-b-lt128 c = code-1 c.args.t.now c.byte_at-b.ensures.0 c.if-b-eq92.false c.if-b-lt128.true

pub returns-then-b-lt224 : goal.returns-then-b-lt224
returns-then-b-lt224 c = c.two_of.ensures ∙ code-2 c.args.t.now c.byte_at-b.ensures.0 c.if-b-eq92.false c.if-b-lt128.false c.if-b-lt224.true

pub returns : goal.returns
returns c = c.three_of.ensures ∙ code-3 c.args.t.now c.byte_at-b.ensures.0 c.if-b-eq92.false c.if-b-lt224.false
