-- The units of a string, one by one, are those that are left.
-- Assumes nothing.
use mathlib.Core.Path.{sym}
use native.Mathlib.Omega.{arith}
use borrow.Author.Tests.{eqb-true, eqb-false}
use Rattle.jsontext.proofs.Laws.Cursors.{at-the-end, at-the-mark, one_taken, two_taken, fewer}
use Rattle.jsontext.proofs.units.UnitsIterator.next.Goals as goal

pub returns-then-is_empty-clause-steps : goal.returns-then-is_empty-clause-steps
returns-then-is_empty-clause-steps c = let e = at-the-end _ c.in_default.is (eqb-true _ _ (sym c.if-is_empty.ensures)) in (e, e)

pub returns-then-t-eq34-clause-steps : goal.returns-then-t-eq34-clause-steps
returns-then-t-eq34-clause-steps c =
    let e = at-the-mark _ c.in_default.is (omega (arith, eqb-false _ _ (sym c.if-is_empty.ensures))) c.if-t-eq34.true in (e, e)

pub returns-then-t-ge240-clause-steps : goal.returns-then-t-ge240-clause-steps
returns-then-t-ge240-clause-steps c =
    two_taken _ c.in_default.is (omega (arith, eqb-false _ _ (sym c.if-is_empty.ensures))) c.if-t-eq34.false c.size_of.ensures c.min.ensures
    c.if-t-ge240.true c.four_of-code.ensures.0

pub returns-then-t-ge240-clause-goes : goal.returns-then-t-ge240-clause-goes
returns-then-t-ge240-clause-goes c =
    record { on = λ f. (tt, tt, fewer (returns-then-t-ge240-clause-steps c)); keeps = tt; rests = λ f. tt }

pub returns-clause-steps : goal.returns-clause-steps
returns-clause-steps c =
    one_taken _ c.in_default.is (omega (arith, eqb-false _ _ (sym c.if-is_empty.ensures))) c.if-t-eq34.false c.size_of.ensures c.min.ensures
    c.if-t-ge240.false c.code_of.ensures

pub returns-clause-goes : goal.returns-clause-goes
returns-clause-goes c = record { on = λ f. (tt, tt, fewer (returns-clause-steps c)); keeps = tt; rests = λ f. tt }
