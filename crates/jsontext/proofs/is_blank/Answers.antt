-- `is_blank` meets its contract.
-- Assumes nothing.
use mathlib.Core.Logic.{⊎_elim, inl, inr}
use Rattle.digits.specs.Paper.Read.{holds, fails}
use Rattle.jsontext.proofs.is_blank.Goals as goal

pub returns-then-b-eq32 : goal.returns-then-b-eq32
returns-then-b-eq32 c = holds (inl c.if-b-eq32.true)

pub returns-then-b-eq9 : goal.returns-then-b-eq9
returns-then-b-eq9 c = holds (inr (inl c.if-b-eq9.true))

pub returns-then-b-eq10 : goal.returns-then-b-eq10
returns-then-b-eq10 c = holds (inr (inr (inl c.if-b-eq10.true)))

pub returns-then-b-eq13 : goal.returns-then-b-eq13
returns-then-b-eq13 c = holds (inr (inr (inr c.if-b-eq13.true)))

pub returns : goal.returns
returns c = fails (⊎_elim c.if-b-eq32.false (⊎_elim c.if-b-eq9.false (⊎_elim c.if-b-eq10.false c.if-b-eq13.false)))
