-- `layouts::nikobus::all_digits` meets its contract: what is left to test tells what the whole does.
-- Assumes nothing.
use mathlib.Core.Path.{refl, sym, ap, ◌∙◌}
use native.Mathlib.Omega.{arith}
use borrow.Author.Rules.{rules}
use Rattle.digits.proofs.Laws.Parts.{part-rest}
use Rattle.layouts.specs.Paper.Chars.{all, is_hex}
use Rattle.layouts.proofs.Laws.Runs.{first-stop, block-stop, block-step}
use Rattle.layouts.proofs.nikobus.all_digits.Goals as goal

pub returns-then-not-is_digit : goal.returns-then-not-is_digit
returns-then-not-is_digit c =
    first-stop is_hex c.args.s.now (omega (arith, c.if-s-ne0.true)) (sym c.is_digit.ensures ∙ c.if-not-is_digit.true)

pub loop-i-init : goal.loop-i-init
loop-i-init c = (search rules, refl)

pub returns-then-not-block_is_digits : goal.returns-then-not-block_is_digits
returns-then-not-block_is_digits c =
    block-stop is_hex c.args.s.now c.loop-i.i 32 (sym c.block_is_digits.ensures ∙ c.if-not-block_is_digits.true) ∙ c.loop-i.invariant.1

pub loop-i-preserved : goal.loop-i-preserved
loop-i-preserved c =
    let e = sym c.block_is_digits.ensures ∙ c.if-not-block_is_digits.false in
    (search rules, block-step is_hex c.args.s.now c.loop-i.i 32 e ∙ c.loop-i.invariant.1)

pub returns : goal.returns
returns c =
    c.block_is_digits-2.ensures ∙ ap (all is_hex) (part-rest c.loop-i.i c.args.s.now) ∙ c.loop-i.invariant.1
