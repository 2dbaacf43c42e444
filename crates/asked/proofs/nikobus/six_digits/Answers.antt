-- `nikobus::six_digits` meets its contract.
-- Assumes nothing.
use Rattle.std.proofs.lemmas.Result.{err_from_is_err_and}
use mathlib.Core.Path.{sym}
use Rattle.asked.proofs.Laws.Exact.{some_digits, too-few, no-digits}
use Rattle.asked.proofs.nikobus.six_digits.Goals as goal

pub returns-then-not-are_digits : goal.returns-then-not-are_digits
returns-then-not-are_digits c =
    no-digits _ _ c.chars-read.ensures.reads c.chars-read.ensures.len_in_bounds c.are_digits.ensures c.if-not-are_digits.true

pub returns-in_err-exact : goal.returns-in_err-exact
returns-in_err-exact c =
    let p = err_from_is_err_and c.from_residual.result c.from_residual.ensures.1 in
    rw (p.1, p.2) (too-few _ _ c.chars-read.ensures.reads c.chars-read.ensures.len_in_bounds c.are_digits.ensures c.exact.ensures c.in_err-exact.was)

pub returns : goal.returns
returns c =
    some_digits _ _ c.chars-read.ensures.reads c.chars-read.ensures.len_in_bounds c.are_digits.ensures c.if-not-are_digits.false c.exact.ensures c.in_ok-exact.was (sym c.six_of.ensures)
