-- `nibe::valued` meets its contract.
-- Assumes nothing.
use native.Mathlib.Omega.{arith}
use Rattle.std.proofs.lemmas.Result.{err_from_is_err_and}
use Rattle.asked.proofs.Laws.Casts.{to_word, to-byte, to-double}
use Rattle.asked.proofs.Laws.Lift.{is_held, read-at}
use Rattle.asked.proofs.Laws.Shaped.{last, more, all-at, numbered, measuring}
use Rattle.asked.proofs.Laws.Results.{both-are}
use Rattle.asked.proofs.nibe.valued.Goals as goal

pub returns-in_err-reg : goal.returns-in_err-reg
returns-in_err-reg c =
    let p = err_from_is_err_and c.from_residual.result c.from_residual.ensures.1 in
    rw (p.1, p.2) (all-at _ (more _ _ _ _ (numbered {m = 65535} (omega arith) c.value.ensures _ c.whole-reg.ensures)
    (more _ _ _ _ (numbered {m = 255} (omega arith) c.value-2.ensures _ c.whole-width.ensures) (last _ _ (measuring {m = 4294967295} (omega arith) c.value-3.ensures 0 _ c.reading-value.ensures)) c.both.ensures) c.both-2.ensures) c.in_err-reg.was)

pub overflow_cast-result : goal.overflow_cast-result
overflow_cast-result c =
    to_word _ (is_held (read-at _ c.whole-reg.ensures (both-are _ _ c.both-2.ensures c.in_ok-reg.was).0))

pub overflow_cast-result-2 : goal.overflow_cast-result-2
overflow_cast-result-2 c =
    to-byte _ (is_held (read-at _ c.whole-width.ensures (both-are _ _ c.both.ensures (both-are _ _ c.both-2.ensures c.in_ok-reg.was).1).0))

pub overflow_cast-result-3 : goal.overflow_cast-result-3
overflow_cast-result-3 c =
    to-double _ (is_held (read-at _ c.reading-value.ensures (both-are _ _ c.both.ensures (both-are _ _ c.both-2.ensures c.in_ok-reg.was).1).1))

pub returns : goal.returns
returns c =
    all-at _ (more _ _ _ _ (numbered {m = 65535} (omega arith) c.value.ensures _ c.whole-reg.ensures)
    (more _ _ _ _ (numbered {m = 255} (omega arith) c.value-2.ensures _ c.whole-width.ensures) (last _ _ (measuring {m = 4294967295} (omega arith) c.value-3.ensures 0 _ c.reading-value.ensures)) c.both.ensures) c.both-2.ensures) c.in_ok-reg.was
