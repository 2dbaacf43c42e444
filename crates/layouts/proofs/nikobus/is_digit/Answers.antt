-- `layouts::nikobus::is_digit` meets its contract: each test bounds the character, and the bounds tell whether it is a digit.
-- Assumes nothing.
use mathlib.Core.Path.{sym}
use native.Mathlib.Omega.{arith}
use Rattle.digits.proofs.Laws.Tests.{T_true}
use Rattle.layouts.proofs.Laws.HexDigits.{no-hex, hex-cases, hex-figure, hex-high}
use Rattle.layouts.proofs.nikobus.is_digit.Goals as goal

pub returns-then-c-lt48 : goal.returns-then-c-lt48
returns-then-c-lt48 c = sym (no-hex _ (λ h. hex-cases _ ⊥ h (λ x y. omega arith) (λ x y. omega arith)))

pub returns-then-c-le57 : goal.returns-then-c-le57
returns-then-c-le57 c = sym (T_true _ (hex-figure _ c.if-c-lt48.false c.if-c-le57.true))

pub returns-then-c-lt65 : goal.returns-then-c-lt65
returns-then-c-lt65 c = sym (no-hex _ (λ h. hex-cases _ ⊥ h (λ x y. omega arith) (λ x y. omega arith)))

pub returns : goal.returns
returns c = hex-high _ c.if-c-lt65.false
