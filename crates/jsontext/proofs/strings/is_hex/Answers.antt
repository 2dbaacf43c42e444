-- `strings::is_hex` meets its contract.
-- Assumes nothing.
use native.Mathlib.Omega.{arith}
use mathlib.Core.Logic.{⊎_elim, inl, inr}
use Rattle.digits.specs.Paper.Read.{holds, fails}
use Rattle.jsontext.proofs.strings.is_hex.Goals as goal

pub returns-then-b-lt48 : goal.returns-then-b-lt48
returns-then-b-lt48 c = fails (⊎_elim (λ h. omega (arith, h.0)) (⊎_elim (λ h. omega (arith, h.0)) (λ h. omega (arith, h.0))))

pub returns-then-b-le57 : goal.returns-then-b-le57
returns-then-b-le57 c = holds (inl (c.if-b-lt48.false, c.if-b-le57.true))

pub returns-then-b-lt65 : goal.returns-then-b-lt65
returns-then-b-lt65 c = fails (⊎_elim (λ h. omega (arith, h.1)) (⊎_elim (λ h. omega (arith, h.0)) (λ h. omega (arith, h.0))))

pub returns-then-b-le70 : goal.returns-then-b-le70
returns-then-b-le70 c = holds (inr (inl (c.if-b-lt65.false, c.if-b-le70.true)))

pub returns-then-b-lt97 : goal.returns-then-b-lt97
returns-then-b-lt97 c = fails (⊎_elim (λ h. omega (arith, h.1)) (⊎_elim (λ h. omega (arith, h.1)) (λ h. omega (arith, h.0))))

pub returns-then-b-le102 : goal.returns-then-b-le102
returns-then-b-le102 c = holds (inr (inr (c.if-b-lt97.false, c.if-b-le102.true)))

pub returns : goal.returns
returns c = fails (⊎_elim (λ h. omega (arith, h.1)) (⊎_elim (λ h. omega (arith, h.1)) (λ h. omega (arith, h.1))))
