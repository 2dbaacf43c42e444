-- `whole` meets its contract.
-- Assumes nothing.
use Rattle.std.proofs.lemmas.Result.{err_from_is_err_and}
use Rattle.digits.proofs.Laws.Tests.{told, untold}
use Rattle.asked.specs.Work.Draft as draft
use Rattle.asked.proofs.Laws.Texts.{no_row, other-count, head_in, text-with, text-without, few-members}
use Rattle.asked.proofs.whole.Goals as goal

pub returns-then-not-accepts : goal.returns-then-not-accepts
returns-then-not-accepts c =
    draft.not-json (untold c.accepts.ensures c.if-not-accepts.true)

pub returns-in_default : goal.returns-in_default
returns-in_default c =
    draft.none (told c.accepts.ensures c.if-not-accepts.false) (no_row c.in_default.ensures)

pub many-requires : goal.many-requires
many-requires c =
    let h = (head_in c.in-Some.ensures) in (h.low, h.high)

pub overflow_add-many : goal.overflow_add-many
overflow_add-many c =
    record { fits = few-members (head_in c.in-Some.ensures) c.many.ensures }

pub returns-then-not-has_so_many : goal.returns-then-not-has_so_many
returns-then-not-has_so_many c =
    draft.none (told c.accepts.ensures c.if-not-accepts.false) (other-count (head_in c.in-Some.ensures) c.many.ensures (untold c.has_so_many.ensures c.if-not-has_so_many.true))

pub by_row-requires : goal.by_row-requires
by_row-requires c =
    let h = (head_in c.in-Some.ensures) in (h.low, h.high)

pub returns-in_err-by_row : goal.returns-in_err-by_row
returns-in_err-by_row c =
    let p = err_from_is_err_and c.from_residual.result c.from_residual.ensures.1 in
    rw (p.1, p.2) (text-without (told c.accepts.ensures c.if-not-accepts.false) (head_in c.in-Some.ensures) c.many.ensures (told c.has_so_many.ensures c.if-not-has_so_many.false) c.in_err-by_row.ensures)

pub returns : goal.returns
returns c =
    text-with (told c.accepts.ensures c.if-not-accepts.false) (head_in c.in-Some.ensures) c.many.ensures (told c.has_so_many.ensures c.if-not-has_so_many.false) c.in_ok-by_row.ensures
