-- `json_values::is_plain` meets its contract, by the tests.
-- Assumes nothing.
use mathlib.Core.Bool.{false≢true}
use borrow.Author.Tests.{leb-true}
use Rattle.json_values.proofs.Laws.Spelt.{plain}
use Rattle.json_values.proofs.is_plain.Goals as goal

pub returns-then-b-eq34 : goal.returns-then-b-eq34
returns-then-b-eq34 c = λ e. absurd (false≢true e)

pub returns-then-b-eq92 : goal.returns-then-b-eq92
returns-then-b-eq92 c = λ e. absurd (false≢true e)

pub returns-then-b-lt32 : goal.returns-then-b-lt32
returns-then-b-lt32 c = λ e. absurd (false≢true e)

pub returns : goal.returns
returns c = λ e. plain c.args.b c.if-b-eq34.false c.if-b-eq92.false c.if-b-lt32.false (leb-true _ _ e)
