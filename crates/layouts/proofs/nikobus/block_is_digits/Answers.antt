-- `layouts::nikobus::block_is_digits` meets its contract: what was found so far, and what is left to test, tell what the whole does.
-- Assumes nothing.
use mathlib.Core.Path.{refl, ◌∙◌}
use borrow.Author.Rules.{rules}
use Rattle.layouts.specs.Paper.Chars.{is_hex}
use Rattle.layouts.proofs.Laws.Runs.{all-step, all_end}
use Rattle.layouts.proofs.nikobus.block_is_digits.Goals as goal

pub loop-c-init : goal.loop-c-init
loop-c-init c = (search rules, refl)

pub loop-c-preserved : goal.loop-c-preserved
loop-c-preserved c =
    (search rules, all-step is_hex _ _ c.loop-c.so_far c.loop-c-test.true c.is_digit-so_far.ensures ∙ c.loop-c.invariant.1)

pub returns : goal.returns
returns c = all_end is_hex _ _ c.loop-c.so_far c.loop-c-test.false ∙ c.loop-c.invariant.1
