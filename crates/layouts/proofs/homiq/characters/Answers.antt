-- `layouts::homiq::characters` meets its contract: what is left from the index on completes the run.
-- Assumes nothing.
use mathlib.Core.Path.{sym, ◌∙◌}
use native.Mathlib.Omega.{arith}
use borrow.Author.Rules.{rules}
use Rattle.layouts.specs.Paper.Homiq.{field_char}
use Rattle.layouts.proofs.Laws.Runs.{leading-stop, leading_step, leading_end}
use Rattle.layouts.proofs.homiq.characters.Goals as goal

pub loop-i-init : goal.loop-i-init
loop-i-init c = (search rules, omega arith)

pub returns-then-not-is_character : goal.returns-then-not-is_character
returns-then-not-is_character c = leading-stop field_char _ _ c.loop-i-test.true (sym c.is_character.ensures ∙ c.if-not-is_character.true) ∙ c.loop-i.invariant.1

pub loop-i-preserved : goal.loop-i-preserved
loop-i-preserved c = (search rules, leading_step field_char _ _ c.loop-i-test.true (sym c.is_character.ensures ∙ c.if-not-is_character.false) ∙ c.loop-i.invariant.1)

pub returns : goal.returns
returns c = omega (arith, leading_end field_char c.args.s.now c.loop-i.i c.loop-i-test.false, c.loop-i.invariant, c.loop-i-test.false)
