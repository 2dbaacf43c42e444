-- `readings::has_four` meets its contract.
-- Assumes nothing.
use mathlib.Core.Bool.{Bool}
use mathlib.Core.List.{List}
use Prim.Native.Nat.{ℕ}
use Rattle.digits.proofs.Laws.Tests.{told, untold}
use Rattle.digits.specs.Paper.Read.{Decides, holds, fails}
use Rattle.jsontext.specs.Paper.Members.{CountOf}
use Rattle.jsontext.specs.Paper.Names.{InGrammar}
use Rattle.asked.specs.Work.Got.{FourMembers}
use Rattle.asked.proofs.readings.has_four.Goals as goal

-- a text of the grammar has four members by its count
four : {v : List ℕ} {b : Bool} → InGrammar v → Decides (CountOf v 4) b → Decides (FourMembers v) b
four g (holds x) = holds (record { grammar = g; four = x })
four g (fails f) = fails (λ x. f x.four)

pub returns-then-not-accepts : goal.returns-then-not-accepts
returns-then-not-accepts c = fails (λ x. untold c.accepts.ensures c.if-not-accepts.true x.grammar)

pub returns : goal.returns
returns c = four (told c.accepts.ensures c.if-not-accepts.false) c.has_so_many.ensures
