-- `sorts::are_digits` meets its contract.
-- Assumes nothing.
use mathlib.Core.Path.{refl}
use mathlib.Core.List.{[]}
use Rattle.std.specs.Prelude.{Err}
use Rattle.shapes.specs.Paper.Fields.{plain, chars}
use Rattle.asked.specs.declared.values.Reason.TheVariants.{NoValue}
use Rattle.asked.proofs.Laws.Exact.{digits-so, no-digits}
use Rattle.asked.proofs.Laws.Sorted.{exactly-spelt}
use Rattle.asked.proofs.sorts.are_digits.Goals as goal

pub returns-then-not-are_digits : goal.returns-then-not-are_digits
returns-then-not-are_digits c =
    exactly-spelt (plain (chars [])) (Err NoValue) (no-digits _ _ c.chars-read.ensures.reads c.chars-read.ensures.len_in_bounds c.are_digits.ensures c.if-not-are_digits.true) refl

pub returns : goal.returns
returns c =
    exactly-spelt _ _ (digits-so _ _ c.chars-read.ensures.reads c.chars-read.ensures.len_in_bounds c.are_digits.ensures c.if-not-are_digits.false _ c.exact.ensures) c.is_ok.ensures.value
