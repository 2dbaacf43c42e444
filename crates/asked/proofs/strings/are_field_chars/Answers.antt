-- `strings::are_field_chars` meets its contract. The loop's invariant: all characters passed may stand in a field.
-- Assumes nothing.
use native.Mathlib.Omega.{arith}
use mathlib.Core.Path.{sym, ◌∙◌}
use borrow.Author.Count.{below_more}
use Rattle.layouts.specs.Paper.Homiq.{field_char}
use Rattle.asked.proofs.Laws.Strings.{all-passed, one-fails, T_false}
use borrow.Author.Rules.{rules}
use Rattle.asked.proofs.strings.are_field_chars.Goals as goal

pub loop-c-init : goal.loop-c-init
loop-c-init c = (omega arith, λ k h. absurd (omega arith))

pub returns-then-not-is_field_char : goal.returns-then-not-is_field_char
returns-then-not-is_field_char c =
    one-fails field_char _ c.loop-c-test.true (T_false _ (sym c.is_field_char.ensures ∙ c.if-not-is_field_char.true))

pub loop-c-preserved : goal.loop-c-preserved
loop-c-preserved c = (search rules, below_more _ _ c.loop-c.invariant.1 (sym c.is_field_char.ensures ∙ c.if-not-is_field_char.false))

pub returns : goal.returns
returns c = all-passed field_char _ c.loop-c.invariant.1 c.loop-c-test.false
