-- `sheet::reader::first` meets its contract: the tests in their order.
-- Assumes nothing.
use native.Mathlib.Omega.{arith}
use Rattle.std.proofs.lemmas.Result.{err_from_is_err_and}
use Rattle.sheet.specs.Paper.Sheet.{LF}
use Rattle.sheet.proofs.Laws.Chars.{up_le}
use Rattle.sheet.proofs.Laws.Lines.{row_of, failing, at_5, at-6, at_7, all-passed}
use Rattle.sheet.proofs.reader.first.Goals as goal

pub returns-in_err-line : goal.returns-in_err-line
returns-in_err-line c =
    let p = err_from_is_err_and c.from_residual.result c.from_residual.ensures.1 in
    rw (p.1, p.2) (failing c.in_err-line.ensures)

pub returns-then-register-least : goal.returns-then-register-least
returns-then-register-least c = at_5 (row_of c.in_ok-line.ensures) c.if-register-least.true

pub returns-then-number-gt500 : goal.returns-then-number-gt500
returns-then-number-gt500 c = at-6 (row_of c.in_ok-line.ensures) c.if-register-least.false c.if-number-gt500.true

pub returns-then-line-s : goal.returns-then-line-s
returns-then-line-s c = at_7 (row_of c.in_ok-line.ensures) c.if-register-least.false c.if-number-gt500.false (omega (arith, c.in_ok-line.ensures.size_is))

pub overflow_add-result : goal.overflow_add-result
overflow_add-result c = omega (arith, c.in_ok-line.ensures.size_is, up_le LF c.args.s.now)

pub returns : goal.returns
returns c =
    let x = c.in_ok-line.ensures in
    rw x.size_is (all-passed (row_of x) c.if-register-least.false c.if-number-gt500.false (omega (arith, up_le LF c.args.s.now, x.size_is)))
