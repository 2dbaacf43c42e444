-- `strings::are_digits` meets its contract. The loop's invariant: all characters passed are digits.
-- Assumes nothing.
use native.Mathlib.Omega.{arith}
use mathlib.Core.Bool.{not}
use mathlib.Core.Path.{ap, ◌∙◌}
use borrow.Author.Count.{below_more}
use Rattle.layouts.specs.Paper.Chars.{is_hex}
use Rattle.asked.proofs.Laws.Strings.{all-passed, one-fails, digit-told, digit-none}
use borrow.Author.Rules.{rules}
use Rattle.asked.proofs.strings.are_digits.Goals as goal

pub loop-c-init : goal.loop-c-init
loop-c-init c = (omega arith, λ k h. absurd (omega arith))

pub returns-then-is_none : goal.returns-then-is_none
returns-then-is_none c = one-fails is_hex _ c.loop-c-test.true (digit-none _ c.value.ensures (c.is_none.ensures ∙ ap not c.if-is_none.true))

pub loop-c-preserved : goal.loop-c-preserved
loop-c-preserved c = (search rules, below_more _ _ c.loop-c.invariant.1 (digit-told _ c.value.ensures (c.is_none.ensures ∙ ap not c.if-is_none.false)))

pub returns : goal.returns
returns c = all-passed is_hex _ c.loop-c.invariant.1 c.loop-c-test.false
