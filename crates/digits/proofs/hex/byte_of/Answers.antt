-- `digits::hex::byte_of` meets its contract: two digits that are read make the byte, and where one is none there is no byte.
-- Assumes nothing.
use mathlib.Core.Path.{sym, subst}
use native.Mathlib.Omega.{arith}
use Rattle.digits.specs.Paper.Answers.{ReadsByte}
use Rattle.digits.proofs.Laws.HexReads.{no-high, no-low, digit_lt, both-digits}
use Rattle.digits.proofs.hex.byte_of.Goals as goal

pub returns-in_err-value : goal.returns-in_err-value
returns-in_err-value c =
    subst (ReadsByte _ _) (sym c.from_residual.ensures) (no-high c.value.ensures c.in_err-value.was)

pub returns-in_err-value-2 : goal.returns-in_err-value-2
returns-in_err-value-2 c =
    subst (ReadsByte _ _) (sym c.from_residual-in_err-value-2.ensures) (no-low c.value-2.ensures c.in_err-value-2.was)

pub overflow_mul-result : goal.overflow_mul-result
overflow_mul-result c = omega (arith, digit_lt c.value.ensures c.in_ok-value.was)

pub overflow_add-result : goal.overflow_add-result
overflow_add-result c = omega (
  arith,
  digit_lt c.value.ensures c.in_ok-value.was,
  digit_lt c.value-2.ensures c.in_ok-value-2.was,
)

pub returns : goal.returns
returns c =
    both-digits c.value.ensures c.in_ok-value.was
    c.value-2.ensures c.in_ok-value-2.was
